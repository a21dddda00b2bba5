-- What can be come to over the streets of a set, and the ways there. Assumes nothing: these are definitions.
use Rattle.std.specs.Prelude.{◌≡◌, ℕ, ◌<◌, Bool, true, false, List, replicate, ℤ, pos, ◌≤ℤ◌, vec_items}
use Rattle.road.specs.Roads.{Town}
use Rattle.road.specs.Counts.{size, Set, cut}
use Rattle.road.specs.Model.{marked}
use Rattle.join.specs.declared.component.Component.{Component}
use Rattle.join.specs.declared.weighted.Weighted.{Weighted}
use Rattle.join.specs.Joins.{Joins, at}
use Rattle.join.specs.Amounts.{row}
use Rattle.join.specs.Weights.{town_of, lengths_of}

-- the marked crossings, and the way to each
abbrev pub crossings_in : Component → Set
crossings_in c = marked c.marks

abbrev pub path_in : Component → ℕ → Set
path_in c = row (vec_items c.path)

-- crossings that were come to from one, each with a way over streets of A
pub record Grown (t : Town) (A : Set) (c : Component) : Type 0 where
  pub base : crossings_in c c.from ≡ true
  pub leads : (v : ℕ) → crossings_in c v ≡ true → Joins t (at c.from) v (path_in c v)
  pub by : (v k : ℕ) → crossings_in c v ≡ true → path_in c v k ≡ true → A k ≡ true

-- no street of A, of the first n, leads on
abbrev pub Closed : Town → Set → List Bool → ℕ → Type 0
Closed t A ms n = (k : ℕ) → k < n → A k ≡ true → cut t (marked ms) k ≡ false

-- all streets that a town may have
abbrev pub any_street : Set
any_street = marked (replicate 300 true)

-- no street of those, no longer than a bound, leads on
abbrev pub ClosedWithin : Weighted → ℤ → List Bool → ℕ → Type 0
ClosedWithin w bound ms n = (k : ℕ) → k < n → pos (lengths_of w k) ≤ℤ bound → cut (town_of w) (marked ms) k ≡ false

-- all crossings that can be come to from one, each with a way
pub record Spans (t : Town) (c : Component) : Type 0 where
  pub base : crossings_in c c.from ≡ true
  pub leads : (v : ℕ) → crossings_in c v ≡ true → Joins t (at c.from) v (path_in c v)
  pub closed : (k : ℕ) → k < size t → cut t (crossings_in c) k ≡ false
