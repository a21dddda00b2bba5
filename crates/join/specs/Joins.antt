-- Sets of streets that join two crossings, what they cost, and when they are least. Assumes nothing: these are definitions.
use Rattle.std.specs.Prelude.{◌≡◌, ℕ, ◌+◌, ◌-◌, ◌*◌, ◌<◌, ◌≤◌, Bool, true, false, ◌&&◌, ◌==◌}
use Rattle.road.specs.Roads.{Town}
use Rattle.road.specs.Counts.{◌⊕◌, when, bit, sum, par, size, Set, cut, Side}

infixl 31 ◌⊞◌
-- the streets that are in just one of two sets
abbrev pub ◌⊞◌ : Set → Set → Set
J ⊞ Q = λ k. J k ⊕ Q k

-- one street
abbrev pub single : ℕ → Set
single k = λ j. (j == k)

-- whether an odd number of streets of J are cut by the set of crossings Z
unfoldable pub out : Town → Set → Set → Bool
out t J Z = par (size t) (λ k. J k && cut t Z k)

-- J leads from T to the crossing u: it leads out of each set of crossings as often, up to even numbers, as T and u say.
-- T is a crossing, or another parity for each set of crossings
abbrev pub Joins : Town → (Set → Bool) → ℕ → Set → Type 0
Joins t T u J = (Z : Set) → out t J Z ≡ T Z ⊕ Z u

-- a crossing, as the start of joins
abbrev pub at : ℕ → Set → Bool
at v Z = Z v

-- the streets of A once, on the way from r: a set that leads from here to r makes all degrees even with them
abbrev pub once : Town → Set → ℕ → Set → Bool
once t A r Z = out t A Z ⊕ Z r

-- how long the streets of J are together, by the lengths l
unfoldable pub cost : Town → (ℕ → ℕ) → Set → ℕ
cost t l J = sum (size t) (λ k. when (J k) (l k))

-- how many streets of J are cut by Z: a street costs 1 if it is cut, else 0
abbrev pub outs : Town → Set → Set → ℕ
outs t Z J = cost t (λ k. bit (cut t Z k)) J

-- the streets of Q have no length
abbrev pub Zero : Town → (ℕ → ℕ) → Set → Type 0
Zero t l Q = (k : ℕ) → k < size t → Q k ≡ true → l k ≡ 0

-- a way from v to w over such streets
abbrev pub ZeroWay : Town → (ℕ → ℕ) → ℕ → ℕ → Type 0
ZeroWay t l v w = (Q : Set) × Joins t (at v) w Q × Zero t l Q

-- every street that Z cuts has a length
abbrev pub Long : Town → (ℕ → ℕ) → Set → Type 0
Long t l Z = (k : ℕ) → k < size t → cut t Z k ≡ true → 0 < l k

-- Z is the set of crossings that can be come to from b over streets of no length
pub record Class (t : Town) (l : ℕ → ℕ) (b : ℕ) (Z : Set) : Type 0 where
  pub base : Z b ≡ true
  pub long : Long t l Z
  pub way : (x : ℕ) → Z x ≡ true → ZeroWay t l b x

-- each street that leads out of Z, to y, leaves room for 2 * e
abbrev pub Room : Town → (l f : ℕ → ℕ) → ℕ → Set → ℕ → Type 0
Room t l f b Z e = (k x y : ℕ) → k < size t → Side t k x y → Z x ≡ true → Z y ≡ false → f b + 2 * e ≤ f y + l k

-- the lengths, less what the border of Z is charged
abbrev pub shorter : Town → Set → ℕ → (ℕ → ℕ) → ℕ → ℕ
shorter t Z e l k = l k - when (cut t Z k) e

-- f u is the least cost of a join from T to u, and K u is one of that cost, for the crossings u of In; every street has its ends among them
pub record Least (t : Town) (T : Set → Bool) (In : Set) (l f : ℕ → ℕ) (K : ℕ → Set) : Type 0 where
  pub ends : (k x y : ℕ) → k < size t → Side t k x y → In y ≡ true
  pub joins : (u : ℕ) → In u ≡ true → Joins t T u (K u)
  pub costs : (u : ℕ) → In u ≡ true → cost t l (K u) ≡ f u
  pub low : (u : ℕ) (J : Set) → In u ≡ true → Joins t T u J → f u ≤ cost t l J
