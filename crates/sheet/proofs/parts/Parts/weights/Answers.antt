-- The steps of the proof of `weights` that are not found by search.
use Rattle.std.proofs.Common.{◌≤◌, ap, sym, ◌∙◌, subst, rules, tests, arith}
use Rattle.road.specs.Counts.{sum}
use Rattle.road.proofs.Ranges.{sum_fits, sum_is}
use Rattle.sheet.specs.Model.{parts_of}
use Rattle.sheet.proofs.Borders.{weights_sum}
use Rattle.sheet.proofs.Places.{weight_in, weights_most}
use Rattle.sheet.proofs.parts.Parts.weights.Goals as goal

pub sum-requires-clause-fits : goal.sum-requires-clause-fits
sum-requires-clause-fits c =
    let p = c.args.self.now in
    let most = subst (λ n. sum n (weight_in p) ≤ 4000000000) (sym c.count.ensures) (weights_most p) in
    sum_fits c.count.result (weight_in p) c.map.ensures.source c.map.ensures.closure (λ x r q k. search (rules, tests)) _ (omega (arith, most))

pub returns : goal.returns
returns c =
    let p = c.args.self.now in
    let e = sum_is c.count.result (weight_in p) c.map.ensures.source c.map.ensures.closure (λ x r q k. search (rules, tests)) c.sum.result c.sum.ensures.ran
    ∙ ap (λ n. sum n (weight_in p)) c.count.ensures in
    record { is = e ∙ sym (weights_sum (parts_of p)); most = omega (arith, e, weights_most p) }
