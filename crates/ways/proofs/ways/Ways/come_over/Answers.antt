-- The steps of the proof of `come_over` that are not found by search.
use Rattle.std.proofs.Common.{◌+◌, true, None, vec_items, sym, refl, ap, ◌∙◌, arith}
use Rattle.std.proofs.lemmas.List.{get_or_read}
use Rattle.std.proofs.lemmas.Bool.{both_ways}
use Rattle.road.specs.declared.Street.{Street}
use Rattle.road.specs.Model.{model}
use Rattle.road.proofs.Models.{size_model}
use Rattle.ways.specs.Shown.{to}
use Rattle.ways.specs.Relaxed.{shorter}
use Rattle.ways.proofs.Relaxed.{way_low, come_more}
use Rattle.ways.proofs.ways.Ways.come_over.Goals as goal

pub overflow_add-length : goal.overflow_add-length
overflow_add-length c =
    let ws = c.args.self.now in
    let x = c.begin_of-x.result in
    let e = sym (get_or_read (vec_items ws.ways) x c.index.result.now (omega (arith, c.requires.come.places, c.begin_of-x.ensures.below)) c.index.ensures None) ∙ c.in-Some.is in
    omega (arith, way_low (model c.args.town.now) ws c.requires.come x c.in-Some.way e, c.street.ensures.within.2)

pub returns : goal.returns
returns c =
    let t = c.args.town.now in
    let ws = c.args.self.now in
    let items = vec_items ws.ways in
    let x = c.begin_of-x.result in
    let y = c.end_of-y.result in
    let w = c.in_ok-longer.longer in
    let long = ap (λ (s : Street). s.long) c.street.ensures.is in
    let e = sym (get_or_read items x c.index.result.now (omega (arith, c.requires.come.places, c.begin_of-x.ensures.below)) c.index.ensures None) ∙ c.in-Some.is in
    let f = get_or_read items y c.index-2.result.now (omega (arith, c.requires.come.places, c.end_of-y.ensures.below)) c.index-2.ensures None in
    let made = c.in_ok-longer.ensures in
    let r = come_more (model t) ws c.requires.come c.args.leg (omega (arith, c.requires.below, size_model t)) c.in-Some.way w x y c.begin_of-x.ensures.is
    c.end_of-y.ensures.is c.end_of-y.ensures.below e (omega (arith, c.street.ensures.within.2)) (made.0 ∙ ap (λ n. c.in-Some.way.length + n) long) made.1
    (ap (λ n. shorter n (to ws y)) made.0 ∙ ap (shorter (c.in-Some.way.length + c.street.result.long)) (sym f) ∙ sym c.if-not-is_shorter.ensures) in
    (r.0, record { start = refl; less = λ _. r.1; same = λ e. absurd (both_ways true e refl) })
