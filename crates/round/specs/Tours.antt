-- Closed tours over streets that have to be driven so and so often, and what is left of them. Assumes nothing: these are definitions.
use Rattle.std.specs.Prelude.{◌≡◌, ℕ, ◌+◌, ◌%◌, ◌<◌, List, slice_index}
use Rattle.road.specs.declared.leg.Leg.{Leg}
use Rattle.road.specs.Roads.{Town, from, Drive, times, Round}
use Rattle.road.specs.Counts.{size, degree, Set}
use Rattle.join.specs.Extra.{counts}
use Rattle.pairs.specs.Walks.{Forth, Each, Clear}

-- how often a street has still to be driven, by a list of numbers
abbrev pub count_in : List ℕ → ℕ → ℕ
count_in xs k = slice_index xs k

-- every crossing has an even degree
abbrev pub Even : Town → (ℕ → ℕ) → Type 0
Even t c = (x : ℕ) → degree t c x % 2 ≡ 0

-- a closed walk from v: of the streets to be driven, c, it drove some, and d is left, nothing of it at v
pub record ClosedWalk (t : Town) (c d : ℕ → ℕ) (v : ℕ) (ls : List Leg) : Type 0 where
  pub drive : Drive t v ls v
  pub taken : (k : ℕ) → times k ls + d k ≡ c k
  pub forth : Each (Forth t) ls
  pub clear : Clear t d v (size t)

-- a closed tour: nothing is left at any crossing where one of its legs begins
pub record ClosedTour (t : Town) (c d : ℕ → ℕ) (v : ℕ) (ls : List Leg) : Type 0 where
  pub walk : ClosedWalk t c d v ls
  pub clears : Each (λ l. Clear t d (from t l) (size t)) ls

-- a round that drives each street once and the streets of J once more; a street whose ends are one crossing is driven from one to two
pub record Tour (t : Town) (depot : ℕ) (J : Set) (ls : List Leg) : Type 0 where
  pub round : Round t depot ls
  pub driven : (k : ℕ) → k < size t → times k ls ≡ counts J k
  pub forth : Each (Forth t) ls
