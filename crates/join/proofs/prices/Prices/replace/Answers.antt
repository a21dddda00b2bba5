-- The steps of the proof of `replace` that are not found by search.
use Rattle.std.proofs.Common.{◌≡◌, ap, ◌∙◌, arith, w64, to_z, of_z}
use Rattle.std.proofs.lemmas.Int.{to_z-of_z}
use Rattle.road.specs.Model.{marked}
use Rattle.join.specs.Joins.{cost}
use Rattle.join.specs.Amounts.{amount}
use Rattle.join.specs.Problems.{town_in, costs_in}
use Rattle.join.proofs.Relaxing.{prices_set}
use Rattle.join.proofs.prices.Prices.replace.Goals as goal

pub returns-clause-lower : goal.returns-clause-lower
returns-clause-lower c =
    let q = c.args.self.now in
    let n = cost (town_in q.problem) (costs_in q.problem) (marked c.args.drives) in
    let z : amount (to_z w64 (of_z w64 c.args.price)) ≡ n = ap amount (to_z-of_z w64 c.args.price c.ranges.price ∙ c.requires.costs) in
    prices_set q c.args.u _ c.requires.below (omega (arith, z, c.requires.cheaper))
