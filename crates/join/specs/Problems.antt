-- What a problem stands for. Assumes nothing: these are definitions.
use Rattle.std.specs.Prelude.{ℕ, Bool}
use Rattle.road.specs.Roads.{Town}
use Rattle.road.specs.Counts.{Set}
use Rattle.road.specs.Model.{model, marked}
use Rattle.join.specs.declared.problem.Problem.{Problem}
use Rattle.join.specs.Joins.{once}
use Rattle.join.specs.Amounts.{number}

-- the town, its costs, where sets of extra drives begin, and the crossings that can be come to
abbrev pub town_in : Problem → Town
town_in p = model p.streets.town.now

abbrev pub costs_in : Problem → ℕ → ℕ
costs_in p = number p.streets.lengths.now

abbrev pub start_in : Problem → Set → Bool
start_in p = once (town_in p) (marked p.required.now) p.streets.town.now.depot

abbrev pub reached_in : Problem → Set
reached_in p = marked p.reached.now
