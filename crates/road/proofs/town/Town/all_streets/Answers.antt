-- The steps of the proof of `all_streets` that are not found by search.
use Rattle.std.proofs.Common.{◌≡◌, rules, sum_by, sym, ◌∙◌, arith}
use Rattle.std.proofs.iter.runs.Made.{chains}
use Rattle.road.specs.Model.{model}
use Rattle.road.proofs.Lengths.{all_streets_by, all_streets_most}
use Rattle.road.proofs.town.Town.all_streets.Goals as goal

pub sum-requires-clause-fits : goal.sum-requires-clause-fits
sum-requires-clause-fits c = search (rules, chains, all_streets_most c.args.self.now)

pub returns-clause-is : goal.returns-clause-is
returns-clause-is c =
    let by : c.sum.result ≡ sum_by (λ s. s.long) (model c.args.self.now).streets = search (rules, chains) in
    by ∙ sym (all_streets_by (model c.args.self.now).streets)

pub returns-clause-most : goal.returns-clause-most
returns-clause-most c =
    let by : c.sum.result ≡ sum_by (λ s. s.long) (model c.args.self.now).streets = search (rules, chains) in
    omega (arith, by, all_streets_most c.args.self.now)
