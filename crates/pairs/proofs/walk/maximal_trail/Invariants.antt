-- What the walk keeps, and what falls.
use Rattle.std.proofs.Common.{vec_items}
use Rattle.road.specs.Counts.{sum, size}
use Rattle.road.specs.Model.{model}
use Rattle.pairs.proofs.Walks.{Going}
use Rattle.pairs.proofs.walk.maximal_trail.Given as goal

abbrev pub invariant-walk : goal.invariant-walk
invariant-walk g l =
    let multiplicity = g.S.Multiset.multiplicity in
    Going (model l.lists.town.now) (multiplicity l.initial.left) (multiplicity l.left) l.start l.at (vec_items l.legs)

abbrev pub decreases-walk : goal.decreases-walk
decreases-walk g l = sum (size (model l.lists.town.now)) (g.S.Multiset.multiplicity l.left)
