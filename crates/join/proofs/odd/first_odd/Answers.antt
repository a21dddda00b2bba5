-- The step of the proof of `first_odd` that is not found by search.
use Rattle.std.proofs.Common.{◌≡◌, true, false, arith, rules}
use borrow.Author.Tests.{tests}
use Rattle.road.specs.Model.{model, marked}
use Rattle.join.specs.Odd.{odd_at}
use Rattle.road.proofs.Ranges.{first_in}
use Rattle.join.proofs.odd.first_odd.Goals as goal

pub returns : goal.returns
returns c =
    let odd = odd_at (model c.args.town.now) (marked c.args.set.now) in
    first_in (λ v. odd v ≡ true) (λ v. odd v ≡ false) _ c.find.result c.find.ensures.ran (λ x q k. search (rules, tests)) (λ x q k. search (rules, tests)) (λ all k h. all k (omega arith) h) (λ k h y. (h, y))
