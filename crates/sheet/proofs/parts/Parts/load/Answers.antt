-- The steps of the proof of `load` that are not found by search.
use Rattle.std.proofs.Common.{ℕ, ◌≤◌, length, ap, sym, ◌∙◌, subst, get_or, rules, tests, arith}
use Rattle.road.specs.Roads.{street}
use Rattle.road.specs.Counts.{sum, when}
use Rattle.road.proofs.Ranges.{sum_fits, sum_is}
use Rattle.road.proofs.Sums.{sum_le}
use Rattle.sheet.specs.declared.parts.Parts.{Parts}
use Rattle.sheet.specs.Sheet.{no_part, leads_out}
use Rattle.sheet.specs.Model.{parts_of, town_of}
use Rattle.sheet.proofs.Borders.{load_sum}
use Rattle.sheet.proofs.Places.{weight_in, weights_most}
use Rattle.sheet.proofs.parts.Parts.load.Goals as goal

abbrev borne : Parts → ℕ → ℕ → ℕ
borne p k i = when (leads_out (get_or (parts_of p) i no_part).marks (street (town_of p) k)) (weight_in p i)

pub sum-requires-clause-fits : goal.sum-requires-clause-fits
sum-requires-clause-fits c =
    let p = c.args.self.now in
    let few = sum_le (length (parts_of p)) (borne p c.args.k) (weight_in p) (λ i _. grind arith) in
    let most = subst (λ n. sum n (borne p c.args.k) ≤ 4000000000) (sym c.count.ensures) (omega (arith, few, weights_most p)) in
    sum_fits c.count.result (borne p c.args.k) c.map.ensures.source c.map.ensures.closure (λ x r q k. search (rules, tests)) _ (omega (arith, most))

pub returns : goal.returns
returns c =
    let p = c.args.self.now in
    sum_is c.count.result (borne p c.args.k) c.map.ensures.source c.map.ensures.closure (λ x r q k. search (rules, tests)) c.sum.result c.sum.ensures.ran
    ∙ ap (λ n. sum n (borne p c.args.k)) c.count.ensures ∙ sym (load_sum (parts_of p) (street (town_of p) c.args.k))
