-- What the loop of `legs_out` keeps.
use Rattle.std.proofs.Common.{vec_items}
use Rattle.road.specs.Model.{marked}
use Rattle.join.specs.Borders.{BorderedFrom}
use Rattle.join.specs.Problems.{town_in}
use Rattle.join.proofs.problem.Problem.legs_out.Given as goal

abbrev pub invariant-loop-v : goal.invariant-loop-v
invariant-loop-v l = BorderedFrom (town_in l.self) (marked l.marks) l.v (vec_items l.legs)
