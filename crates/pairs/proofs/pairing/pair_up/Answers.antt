-- The steps of the proof of `pair_up` that are not found by search.
use Rattle.std.proofs.Common.{vec_items, arith}
use Rattle.road.specs.Model.{marked}
use Rattle.join.specs.Laws.{town_of}
use Rattle.pairs.specs.Walks.{walk_of}
use Rattle.pairs.specs.Pairings.{depot_extra, walks_of}
use Rattle.pairs.proofs.Walks.{trail_taken}
use Rattle.pairs.proofs.Pairings.{left_start, left_more, left_fewer}
use Rattle.pairs.proofs.DepotExtra.{all_paired}
use Rattle.pairs.proofs.pairing.pair_up.Goals as goal

pub loop-v-init : goal.loop-v-init
loop-v-init c =
    let s = c.args.least.now in
    left_start (town_of s) (depot_extra s) (marked c.drives_to_depot-left.result) (vec_items c.new-pairs.result) c.drives_to_depot-left.ensures c.new-pairs.ensures.items

pub loop-v-smaller : goal.loop-v-smaller
loop-v-smaller c =
    let t = town_of c.args.least.now in
    let J = marked c.loop-v.left in
    let L = marked c.maximal_trail.new.left in
    let h = rw c.new-lists.ensures at c.in_ok-pair.ensures in
    let walk = walk_of c.in_ok-pair.pair in
    left_fewer t J L walk (omega (arith, h.0, c.in-Some.ensures.0)) (trail_taken t J L c.in-Some.v walk h c.in-Some.ensures.1)

pub loop-v-preserved : goal.loop-v-preserved
loop-v-preserved c =
    let s = c.args.least.now in
    let J = marked c.loop-v.left in
    let L = marked c.maximal_trail.new.left in
    let pair = c.in_ok-pair.pair in
    left_more (town_of s) (depot_extra s) J L (vec_items c.loop-v.pairs) (vec_items c.push.new.self) pair c.in_ok-push.ensures.items c.loop-v.invariant
    (trail_taken (town_of s) J L c.in-Some.v (walk_of pair) (rw c.new-lists.ensures at c.in_ok-pair.ensures) c.in-Some.ensures.1)

pub returns : goal.returns
returns c = all_paired c.args.least.now (marked c.loop-v.left) (walks_of (vec_items c.loop-v.pairs)) c.loop-v.invariant c.in_default.ensures
