-- The steps of the proof of `cost` that are not found by search.
use Rattle.std.proofs.Common.{ℕ, ◌≤◌, pos, sym, ap, ◌∙◌, subst, w64, rules}
use Rattle.std.proofs.lemmas.Int.{to_z-of_z}
use borrow.Author.Tests.{tests}
use Rattle.road.specs.Counts.{when, sum}
use Rattle.road.specs.Model.{marked}
use Rattle.road.proofs.Models.{size_model}
use Rattle.join.specs.Joins.{cost}
use Rattle.join.specs.Weights.{lengths_of}
use Rattle.road.proofs.Ranges.{signed_fits, signed_is}
use Rattle.join.proofs.StreetSets.{cost_bound}
use Rattle.join.proofs.weighted.Weighted.cost.Goals as goal

pub sum-requires-clause-fits : goal.sum-requires-clause-fits
unfolding cost
sum-requires-clause-fits c =
    let w = c.args.self.now in
    let J = marked c.args.drives.now in
    let l = λ (k : ℕ). when (J k) (lengths_of w k) in
    signed_fits w.town.now.count l c.map.ensures.source c.map.ensures.closure (λ x r q k. search (rules, tests))
    (subst (λ n. sum n l ≤ 1200000000000) (size_model w.town.now) (cost_bound w.town.now (lengths_of w) J w.most))

pub returns : goal.returns
unfolding cost
returns c =
    let w = c.args.self.now in
    let J = marked c.args.drives.now in
    let l = λ (k : ℕ). when (J k) (lengths_of w k) in
    record {
      is =
          to_z-of_z w64 c.sum.result (search rules)
          ∙ signed_is w.town.now.count l c.map.ensures.source c.map.ensures.closure (λ x r q k. search (rules, tests)) c.sum.result c.sum.ensures.ran
          ∙ ap (λ n. pos (sum n l)) (sym (size_model w.town.now));
    }
