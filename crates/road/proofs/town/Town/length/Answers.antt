-- The steps of the proof of `length` that are not found by search.
use Rattle.std.proofs.Common.{◌≡◌, rules, sum_by, sym, ◌∙◌, arith}
use Rattle.std.proofs.iter.runs.Made.{chains}
use Rattle.road.specs.Roads.{street}
use Rattle.road.specs.Numbers.{leg_in}
use Rattle.road.specs.Model.{model}
use Rattle.road.proofs.Lengths.{far_by, far_most}
use Rattle.road.proofs.town.Town.length.Goals as goal

pub returns-clause-is : goal.returns-clause-is
returns-clause-is c =
    let by : c.sum.result ≡ sum_by (λ x. (street (model c.args.self.now) (leg_in x).by).long) c.args.legs.now = search (rules, chains) in
    by ∙ sym (far_by (model c.args.self.now) c.args.legs.now)

pub returns-clause-most : goal.returns-clause-most
returns-clause-most c =
    let by : c.sum.result ≡ sum_by (λ x. (street (model c.args.self.now) (leg_in x).by).long) c.args.legs.now = search (rules, chains) in
    omega (arith, by, far_most c.args.self.now c.args.legs.now)
