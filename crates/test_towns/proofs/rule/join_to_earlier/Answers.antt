-- The steps of the proof of `join_to_earlier` that are not found by search.
use Rattle.std.proofs.Common.{arith}
use Rattle.test_towns.proofs.Streets.{join_push}
use Rattle.test_towns.proofs.rule.join_to_earlier.Goals as goal

pub loop-one-preserved : goal.loop-one-preserved
loop-one-preserved c n h i = join_push n 1 c.loop-one.one c.args.two _ _ c.in_ok-push.ensures.items (c.loop-one.invariant n h i) (omega arith) h
