-- The first sets of extra drives. Assumes nothing: these are definitions.
use Rattle.std.specs.Prelude.{◌≡◌, ℕ, ◌<◌, true, List, length}
use Rattle.join.specs.declared.component.Component.{Component}
use Rattle.join.specs.declared.problem.Problem.{Problem}
use Rattle.join.specs.declared.drives.PricedDrives.{PricedDrives}
use Rattle.join.specs.Components.{crossings_in, Spans}
use Rattle.join.specs.Joins.{Joins, cost}
use Rattle.join.specs.Problems.{town_in, costs_in, start_in, reached_in}
use Rattle.join.specs.Drives.{drives_of, price_of}

-- a tree from the depot to the crossings that can be come to
pub record Rooted (p : Problem) (c : Component) : Type 0 where
  pub from : c.from ≡ p.streets.town.now.depot
  pub spans : Spans (town_in p) c
  pub found : crossings_in c ≡ reached_in p

-- sets for the crossings below n, with what they cost
pub record Begun (p : Problem) (ss : List PricedDrives) (n : ℕ) : Type 0 where
  pub long : length ss ≡ n
  pub joins : (u : ℕ) → u < n → reached_in p u ≡ true → Joins (town_in p) (start_in p) u (drives_of ss u)
  pub costs : (u : ℕ) → u < n → price_of ss u ≡ cost (town_in p) (costs_in p) (drives_of ss u)
