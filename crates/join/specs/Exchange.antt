-- A stage at which a class of crossings is charged, and circuits through its border. Assumes nothing: these are definitions.
use Rattle.std.specs.Prelude.{◌≡◌, ℕ, ◌<◌, ◌≤◌, Bool, true, false}
use Rattle.road.specs.Roads.{Town}
use Rattle.road.specs.Counts.{◌⊕◌, size, Set, cut, Side}
use Rattle.join.specs.Joins.{◌⊞◌, single, Joins, at, cost, Zero, Long, Room}

-- street k of J leads out of Z, from x to y
pub record Exit (t : Town) (Z J : Set) (k x y : ℕ) : Type 0 where
  pub below : k < size t
  pub own : J k ≡ true
  pub side : Side t k x y
  pub inside : Z x ≡ true
  pub outside : Z y ≡ false

-- a stage: B leads to b, costs no more than g b and has no street out of Z, and each street out of Z leaves room for 2 * e
pub record Stage (t : Town) (T : Set → Bool) (l g : ℕ → ℕ) (b : ℕ) (Z : Set) (e : ℕ) (B : Set) : Type 0 where
  pub joins : Joins t T b B
  pub low : cost t l B ≤ g b
  pub long : Long t l Z
  pub room : Room t l g b Z e
  pub clear : (k : ℕ) → k < size t → cut t Z k ≡ true → B k ≡ false

-- a circuit: in Z from b to x₁ by Q₁, out to y₁ by k₁, outside to y₂ by W over streets in which J and B differ, back to x₂ by k₂, to b by Q₂
pub record Circuit (t : Town) (l : ℕ → ℕ) (b : ℕ) (Z J B : Set) : Type 0 where
  pub k₁ : ℕ
  pub x₁ : ℕ
  pub y₁ : ℕ
  pub exit₁ : Exit t Z J k₁ x₁ y₁
  pub k₂ : ℕ
  pub x₂ : ℕ
  pub y₂ : ℕ
  pub exit₂ : Exit t Z J k₂ x₂ y₂
  pub apart : k₁ ≡ k₂ → ⊥
  pub W : Set
  pub outer : Joins t (at y₁) y₂ W
  pub free : (k : ℕ) → k < size t → W k ≡ true → (J k ⊕ B k ≡ true) × (cut t Z k ≡ false)
  pub Q₁ : Set
  pub inner₁ : Joins t (at b) x₁ Q₁
  pub zero₁ : Zero t l Q₁
  pub Q₂ : Set
  pub inner₂ : Joins t (at b) x₂ Q₂
  pub zero₂ : Zero t l Q₂

-- its streets
abbrev pub circuit : (k₁ k₂ : ℕ) (W Q₁ Q₂ : Set) → Set
circuit k₁ k₂ W Q₁ Q₂ = (((Q₁ ⊞ single k₁) ⊞ W) ⊞ single k₂) ⊞ Q₂

-- the set B, round the circuit C and then by Q and k out of Z
abbrev pub go_out : (B C Q : Set) → ℕ → Set
go_out B C Q k = ((B ⊞ C) ⊞ Q) ⊞ single k
