-- The steps of the proof of `look_inside` that are not found by search.
use Rattle.std.proofs.Common.{◌≡◌, ◌<◌, sym, ap, ◌∙◌, subst, ap₂, arith}
use Rattle.std.proofs.lemmas.Int.{ints}
use Rattle.road.specs.Model.{marked}
use Rattle.join.specs.Joins.{◌⊞◌, single, Zero}
use Rattle.join.specs.Problems.{town_in}
use Rattle.join.specs.Classes.{way_in}
use Rattle.join.specs.Turns.{lengths_at, potential_at}
use Rattle.join.proofs.Looking.{inside_better, inside_free, inside_done}
use Rattle.join.proofs.contraction.Contraction.look_inside.Goals as goal

pub returns-in-Some-clause-finds : goal.returns-in-Some-clause-finds
returns-in-Some-clause-finds c =
    let d = c.in-Some.ensures in
    let e = c.extra_for-drives.ensures in
    let w = way_in c.args.self.now.classes.now in
    let k = c.in-Some.k in
    inside_better c.args.self.now.prices.now c.args.self.now.level.now c.args.self.now.classes.now c.args.b c.args.self.now.pass c.args.self.now.classed c.args.self.now.merged
    c.requires.lowest.0 c.requires.lowest.1 c.requires.none k c.street-street.result.one c.street-street.result.two d.0 (sym (ap (λ f. f k) e) ∙ d.1) d.2 (ap (λ s. s.one) c.street-street.ensures.is) (ap (λ s. s.two) c.street-street.ensures.is)
    (marked c.lead_on-there.result) (marked c.xor-home.result) (marked c.xor.result)
    (c.lead_on-there.ensures ∙ ap (λ J. (J ⊞ (w c.args.b ⊞ w c.street-street.result.one)) ⊞ single k) e)
    (c.xor-home.ensures ∙ ap₂ (λ J Q. J ⊞ Q) c.way_to.ensures c.way_to-in-Some.ensures) c.xor.ensures

pub returns-in-None-clause-finds : goal.returns-in-None-clause-finds
returns-in-None-clause-finds c =
    let q = c.args.self.now.prices.now in
    let v = c.args.self.now.level.now in
    let free = subst (Zero (town_in q.problem) (lengths_at v)) c.extra_for-drives.ensures c.in-None.ensures in
    let some : 0 < potential_at v c.args.b = omega (arith, ints, c.if-level-b-gt0.true, v.whole_potential c.args.b) in
    inside_free q v c.args.self.now.classes.now c.args.b c.args.self.now.pass c.args.self.now.classed c.args.self.now.merged c.requires.lowest.0 c.requires.lowest.1 free some
    (marked c.extra_for-drives.result.now) c.extra_for-drives.ensures

pub returns-in-None-2-clause-finds : goal.returns-in-None-2-clause-finds
returns-in-None-2-clause-finds c =
    let q = c.args.self.now.prices.now in
    let v = c.args.self.now.level.now in
    let nothing : potential_at v c.args.b ≡ 0 = omega (arith, ints, c.if-level-b-gt0.false, v.whole_potential c.args.b) in
    inside_done q v c.args.self.now.classes.now c.args.b c.args.self.now.pass c.args.self.now.classed c.args.self.now.merged c.requires.lowest.0 c.requires.lowest.1 nothing c.requires.none
