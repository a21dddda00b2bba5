-- Circuits as the code finds them, or that there are none. Assumes nothing: these are definitions.
use Rattle.std.specs.Prelude.{◌≡◌, ℕ, ◌<◌, true, false, not, ◌&&◌}
use Rattle.road.specs.Roads.{Town}
use Rattle.road.specs.Counts.{◌⊕◌, size, one, two, Set, cut}
use Rattle.road.specs.Model.{marked}
use Rattle.join.specs.declared.circuit.Circuit.{Circuit}
use Rattle.join.specs.Joins.{Joins, at}
use Rattle.join.specs.Exchange.{Exit}
use Rattle.join.specs.Weights.{outer}

-- two streets of J out of Z, joined outside over streets in which J and B differ
pub record Closes (t : Town) (Z J B : Set) (c : Circuit) : Type 0 where
  pub out : Exit t Z J c.out.street c.out.inner c.out.outer
  pub back : Exit t Z J c.back.street c.back.inner c.back.outer
  pub apart : c.out.street ≡ c.back.street → ⊥
  pub outside : Joins t (at c.out.outer) c.back.outer (marked c.far)
  pub free : (k : ℕ) → k < size t → marked c.far k ≡ true → (J k ⊕ B k ≡ true) × (cut t Z k ≡ false)
  pub below : (c.out.inner < 100) × (c.out.outer < 100) × (c.back.inner < 100)

-- the streets in which J and B differ, with both ends outside Z
abbrev pub outside : Town → (Z J B : Set) → Set
outside t Z J B k = (J k ⊕ B k) && not (Z (one t k)) && not (Z (two t k))

-- a street k of J out of Z, other than the first, whose outer end is in Y
pub record Second (t : Town) (Z J Y : Set) (first k : ℕ) : Type 0 where
  pub other : k ≡ first → ⊥
  pub own : J k ≡ true
  pub cuts : cut t Z k ≡ true
  pub ends : Y (outer t Z k) ≡ true

-- the street k of J out of Z is the only one into Y, which is what can be come to from its outer end over outside streets
pub record Lone (t : Town) (Z J B : Set) (k : ℕ) (Y : Set) : Type 0 where
  pub start : Y (outer t Z k) ≡ true
  pub closed : (i : ℕ) → i < size t → outside t Z J B i ≡ true → cut t Y i ≡ false
  pub joined : (u : ℕ) → Y u ≡ true → (W : Set) × Joins t (at (outer t Z k)) u W × ((i : ℕ) → i < size t → W i ≡ true → outside t Z J B i ≡ true)
  pub alone : (i : ℕ) → i < size t → Second t Z J Y k i → ⊥

-- so are the streets of J out of Z, of the first n
abbrev pub AllLone : Town → (Z J B : Set) → ℕ → Type 0
AllLone t Z J B n = (k : ℕ) → k < n → J k ≡ true → cut t Z k ≡ true → (Y : Set) × Lone t Z J B k Y
