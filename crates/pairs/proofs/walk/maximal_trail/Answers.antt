-- The steps of the proof of `maximal_trail` that are not found by search.
use Rattle.std.proofs.Common.{vec_items}
use Rattle.road.specs.Model.{model}
use Rattle.pairs.proofs.Walks.{going_start, going_on, fewer_left}
use Rattle.pairs.proofs.walk.maximal_trail.Goals as goal

pub walk-init : goal.walk-init
walk-init g c = going_start (model c.args.lists.now.town.now) (g.S.Multiset.multiplicity c.args.left.now) c.args.start (vec_items c.new-legs.result) c.new-legs.ensures.items

pub walk-smaller : goal.walk-smaller
walk-smaller g c = fewer_left (g.S.Multiset.multiplicity c.remove.new.self) c.in-Some.ensures c.remove.ensures

pub walk-preserved : goal.walk-preserved
walk-preserved g c =
    going_on (g.S.Multiset.multiplicity c.remove.new.self) c.in-Some.ensures c.remove.ensures c.walk.invariant c.end_of-at.ensures.is c.in_ok-push.ensures.items
