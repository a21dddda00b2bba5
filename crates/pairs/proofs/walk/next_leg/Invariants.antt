-- What the loop of `next_leg` keeps, and what falls.
use Rattle.std.proofs.Common.{◌-◌}
use Rattle.road.specs.Model.{model}
use Rattle.pairs.specs.Walks.{Clear}
use Rattle.pairs.proofs.walk.next_leg.Given as goal

abbrev pub invariant-loop-k : goal.invariant-loop-k
invariant-loop-k g l = Clear (model l.lists.town.now) (g.S.Multiset.multiplicity l.left) l.at l.k

abbrev pub decreases-loop-k : goal.decreases-loop-k
decreases-loop-k g l = l.lists.town.now.count - l.k
