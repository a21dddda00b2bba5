-- What the loop of `tree_drives` keeps.
use Rattle.std.proofs.Common.{◌≡◌, length}
use Rattle.road.specs.Counts.{Set}
use Rattle.road.specs.Model.{marked}
use Rattle.join.specs.Joins.{out}
use Rattle.join.specs.Problems.{town_in}
use Rattle.join.proofs.Trees.{ways_to_odd}
use Rattle.join.proofs.problem.Problem.tree_drives.Given as goal

abbrev pub invariant-loop-v : goal.invariant-loop-v
invariant-loop-v l =
    (length l.drives ≡ 300)
    × ((Z : Set) → out (town_in l.self) (marked l.drives) Z ≡ ways_to_odd (town_in l.self) (marked l.self.required.now) l.self.streets.town.now.depot Z l.v)
