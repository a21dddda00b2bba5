-- The step of the proof of `descend` that is not found by search.
use Rattle.std.proofs.Common.{subst, arith}
use Rattle.join.specs.Passes.{After}
use Rattle.join.proofs.Descending.{cheaper_none}
use Rattle.join.proofs.packing.CutPacking.descend.Goals as goal

pub returns : goal.returns
returns c =
    let a = c.args.self.now in
    let i = c.loop-i.invariant in
    cheaper_none a.prices.now a.stages.now c.loop-i.level (subst (λ n. After a.prices.now a.stages.now n c.loop-i.level) (omega arith) i.0) _ _ i.1
