-- What the loop of `closed_tour` keeps, and what falls.
use Rattle.std.proofs.Common.{drop, vec_items}
use Rattle.road.specs.Counts.{sum}
use Rattle.road.specs.Model.{model}
use Rattle.round.specs.Tours.{count_in}
use Rattle.round.proofs.Tours.{with_legs, Touring}
use Rattle.round.proofs.tour.+closed_tour.Given as goal

abbrev pub decreases-closed_tour : goal.decreases-closed_tour
decreases-closed_tour l = sum 300 (count_in l.left.now)

abbrev pub invariant-loop-leg : goal.invariant-loop-leg
invariant-loop-leg l = Touring (model l.lists.town.now) (with_legs l.leg-items (count_in l.initial.left)) (count_in l.left) l.start (vec_items l.legs) (drop l.leg-index l.leg-items)
