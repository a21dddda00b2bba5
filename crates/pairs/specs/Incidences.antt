-- Lists of the streets at each crossing. Assumes nothing: these are definitions.
use Rattle.std.specs.Prelude.{◌≡◌, ℕ, ◌+◌, ◌<◌, ◌≤◌, slice_index}
use Rattle.road.specs.Roads.{Town}
use Rattle.road.specs.Counts.{size, one, two, ends}
use Rattle.pairs.specs.declared.lists.StreetLists.{StreetLists}

-- no street from n on and before m has an end at v
abbrev pub Skips : Town → (v n m : ℕ) → Type 0
Skips t v n m = (n ≤ m) × ((j : ℕ) → n ≤ j → j < m → ends t j v ≡ 0)

-- the lists have all streets from n on
pub record Listed (t : Town) (n : ℕ) (s : StreetLists) : Type 0 where
  pub first : (v : ℕ) → v < t.crossings → Skips t v n (slice_index s.first v)
  pub at_one : (k : ℕ) → n ≤ k → k < size t → Skips t (one t k) (k + 1) (slice_index s.after_one k)
  pub at_two : (k : ℕ) → n ≤ k → k < size t → Skips t (two t k) (k + 1) (slice_index s.after_two k)
