-- What the loop of `pair_up` keeps, and what falls.
use Rattle.std.proofs.Common.{vec_items}
use Rattle.road.specs.Model.{marked}
use Rattle.join.specs.Odd.{odds}
use Rattle.join.specs.Laws.{town_of}
use Rattle.pairs.specs.Pairings.{depot_extra, walks_of}
use Rattle.pairs.proofs.Pairings.{Left}
use Rattle.pairs.proofs.pairing.pair_up.Given as goal

abbrev pub invariant-loop-v : goal.invariant-loop-v
invariant-loop-v l = Left (town_of l.least) (depot_extra l.least) (marked l.left) (walks_of (vec_items l.pairs))

abbrev pub decreases-loop-v : goal.decreases-loop-v
decreases-loop-v l = odds (town_of l.least) (marked l.left)
