-- The steps of the proof of `weight` that are not found by search.
use Rattle.std.proofs.Common.{◌<◌, subst}
use Rattle.sheet.proofs.Places.{count_is, weight_at}
use Rattle.sheet.proofs.parts.Parts.weight.Goals as goal

pub returns-clause-is : goal.returns-clause-is
returns-clause-is c =
    let p = c.args.self.now in
    weight_at _ p.town.now.crossings p.numbers.now c.args.i c.begin.result (subst (λ n. c.args.i < n) (count_is p) c.requires) c.begin.ensures.is
