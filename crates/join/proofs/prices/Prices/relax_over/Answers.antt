-- The steps of the proof of `relax_over` that are not found by search.
use Rattle.std.proofs.Common.{◌≡◌, ◌<◌, ◌≤◌, false, pos, sym, refl, ap, ◌∙◌, subst, arith}
use Rattle.std.proofs.lemmas.Int.{ints}
use Rattle.std.proofs.lemmas.Bool.{both_ways}
use Rattle.road.specs.Counts.{size}
use Rattle.road.specs.Model.{marked}
use Rattle.road.proofs.Models.{size_model}
use Rattle.join.specs.Joins.{◌⊞◌, single, Joins, cost}
use Rattle.join.specs.Problems.{town_in, costs_in, start_in}
use Rattle.join.specs.Prices.{extra_in, price_in}
use Rattle.join.proofs.Relaxing.{begin_is, into_is, end_reached, over_join, over_near}
use Rattle.join.proofs.prices.Prices.relax_over.Goals as goal

pub cost_flipped-cost-requires-clause-before : goal.cost_flipped-cost-requires-clause-before
cost_flipped-cost-requires-clause-before c =
    let q = c.args.self.now in
    let p = q.problem in
    let x = c.begin_of-x.result in
    let h : c.args.leg.by < size (town_in p) = omega (arith, size_model p.streets.town.now, c.requires) in
    let e : price_in q x ≡ cost (town_in p) (costs_in p) (marked c.extra_for.result.now) =
    q.costs x (ap (λ u. marked p.reached.now u) (c.begin_of-x.ensures.is ∙ begin_is (town_in p) c.args.leg.by c.args.leg.back) ∙ end_reached p c.args.leg.by c.args.leg.back h) ∙ ap (cost (town_in p) (costs_in p)) (sym c.extra_for.ensures) in
    omega (arith, ints, c.price_for.ensures, e)

pub replace-requires-clause-joins : goal.replace-requires-clause-joins
replace-requires-clause-joins c =
    let q = c.args.self.now in
    let p = q.problem in
    let x = c.begin_of-x.result in
    let y = c.end_of-y.result in
    let k = c.args.leg.by in
    let eJ = c.flip.ensures ∙ ap (λ J. J ⊞ single k) c.extra_for-then-cost-price_for.ensures in
    subst (Joins (town_in p) (start_in p) y) (sym eJ)
    (over_join q k c.args.leg.back c.requires x y (c.begin_of-x.ensures.is ∙ begin_is (town_in p) c.args.leg.by c.args.leg.back) (c.end_of-y.ensures.is ∙ into_is (town_in p) c.args.leg.by c.args.leg.back))

pub returns : goal.returns
returns c =
    let q = c.args.self.now in
    let p = q.problem in
    let x = c.begin_of-x.result in
    let y = c.end_of-y.result in
    let k = c.args.leg.by in
    let f = c.cost_flipped-cost.ensures ∙ ap (λ J. pos (cost (town_in p) (costs_in p) (J ⊞ single k))) c.extra_for.ensures in
    let le : price_in q y ≤ cost (town_in p) (costs_in p) (extra_in q x ⊞ single k) = omega (arith, ints, f, c.price_for-2.ensures, c.if-cost-price_for.false) in
    let n = over_near q k c.args.leg.back c.requires x y (c.begin_of-x.ensures.is ∙ begin_is (town_in p) c.args.leg.by c.args.leg.back) (c.end_of-y.ensures.is ∙ into_is (town_in p) c.args.leg.by c.args.leg.back) le in
    record { problem = refl; less = λ f. absurd (both_ways false refl f); same = λ _. (refl, n) }
