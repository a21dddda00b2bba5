-- The steps of the proof of `is_marked` that are not found by search.
use Rattle.std.proofs.Common.{◌<◌, subst}
use Rattle.sheet.proofs.Places.{count_is, mark_at}
use Rattle.sheet.proofs.parts.Parts.is_marked.Goals as goal

pub returns : goal.returns
returns c =
    let p = c.args.self.now in
    mark_at _ p.town.now.crossings p.numbers.now c.args.i c.begin.result c.args.v (subst (λ n. c.args.i < n) (count_is p) c.requires.part) c.begin.ensures.is c.requires.crossing
