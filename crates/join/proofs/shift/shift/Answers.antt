-- The step of the proof of `shift` that is not found by search.
use Rattle.std.proofs.Common.{rules}
use Rattle.std.proofs.lemmas.List.{length-set}
use Rattle.join.proofs.Writing.{upto_more}
use Rattle.join.proofs.shift.shift.Goals as goal

pub loop-k-preserved : goal.loop-k-preserved
loop-k-preserved g c =
    let i = c.loop-k.invariant in (simp length-set i.0, upto_more _ _ _ _ _ (search rules) (search rules) i.1)
