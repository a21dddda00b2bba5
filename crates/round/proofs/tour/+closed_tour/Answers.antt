-- The steps of the proof of `closed_tour` that are not found by search.
use Rattle.std.proofs.Common.{List, ◌++◌, vec_items, ap, ◌∙◌, arith}
use Rattle.road.specs.declared.leg.Leg.{Leg}
use Rattle.road.proofs.Models.{size_model}
use Rattle.round.specs.Tours.{count_in}
use Rattle.round.proofs.Tours.{touring_start, touring_end, touring_fewer, touring_on}
use Rattle.round.proofs.tour.+closed_tour.Goals as goal

pub loop-leg-init : goal.loop-leg-init
loop-leg-init t c = touring_start c.deref-leg-items.ensures.value c.requires c.in_ok-walk.ensures (vec_items c.new-legs.result) c.new-legs.ensures.items

pub closed_tour-requires : goal.closed_tour-requires
closed_tour-requires t c =
    let town = c.args.lists.now.town.now in
    let fewer = touring_fewer c.deref-leg-items.ensures.value c.requires c.in_ok-walk.ensures c.loop-leg.leg-index c.loop-leg.invariant c.loop-leg-test.true 300 (omega (arith, size_model town, town.few)) in
    (omega (arith, fewer, c.decreases), c.loop-leg.invariant.even)

pub loop-leg-preserved : goal.loop-leg-preserved
loop-leg-preserved t c =
    touring_on c.deref-leg-items.ensures.value c.requires c.in_ok-walk.ensures c.loop-leg.leg-index c.loop-leg.invariant c.loop-leg-test.true
    (count_in c.closed_tour.new.left) c.begin_of-at.result (vec_items c.in_ok-inner.inner) (vec_items c.extend_from_slice.new.self) (vec_items c.push.new.self)
    c.in_ok-inner.ensures c.begin_of-at.ensures.is
    (c.in_ok-extend_from_slice.ensures.items ∙ ap (λ (xs : List Leg). vec_items c.loop-leg.legs ++ xs) c.deref.ensures.value)
    c.in_ok-push.ensures.items

pub returns : goal.returns
returns t c = touring_end c.deref-leg-items.ensures.value c.requires c.in_ok-walk.ensures c.loop-leg.leg-index c.loop-leg.invariant c.loop-leg-test.false
