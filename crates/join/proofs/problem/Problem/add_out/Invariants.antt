-- What the loop of `add_out` keeps.
use Rattle.std.proofs.Common.{vec_items}
use Rattle.road.specs.Model.{marked}
use Rattle.join.specs.Problems.{town_in}
use Rattle.join.proofs.Incidence.{Starring}
use Rattle.join.proofs.problem.Problem.add_out.Given as goal

abbrev pub invariant-loop-leg : goal.invariant-loop-leg
invariant-loop-leg l = Starring (town_in l.self) (marked l.marks) l.v l.leg-items l.leg-index (vec_items l.legs)
