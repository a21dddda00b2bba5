-- The step of the proof of `long_street` that is not found by search.
use Rattle.std.proofs.Common.{◌≡◌, ◌<◌, true, arith, rules}
use borrow.Author.Tests.{tests}
use Rattle.std.proofs.lemmas.Int.{ints}
use Rattle.road.specs.Model.{marked}
use Rattle.road.proofs.Models.{size_model}
use Rattle.join.specs.Weights.{lengths_of}
use Rattle.road.proofs.Ranges.{first_in}
use Rattle.join.proofs.weighted.Weighted.long_street.Goals as goal

pub returns : goal.returns
returns c =
    let own = marked c.args.drives.now in
    let long = lengths_of c.args.self.now in
    first_in (λ k. (own k ≡ true) × (0 < long k)) (λ k. own k ≡ true → long k ≡ 0) _ c.find.result c.find.ensures.ran (λ x q k. search (rules, tests, ints)) (λ x q k. search (rules, tests, ints))
    (λ all k h. all k (omega arith) (omega (arith, size_model c.args.self.now.town.now))) (λ k h y. (h, y.0, y.1))
