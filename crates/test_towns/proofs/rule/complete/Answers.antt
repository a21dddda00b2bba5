-- The steps of the proof of `complete` that are not found by search.
use Rattle.std.proofs.Common.{rules}
use Rattle.test_towns.proofs.rule.complete.Goals as goal

pub loop-two-preserved : goal.loop-two-preserved
loop-two-preserved c = c.in_ok-join_to_earlier.ensures c.args.crossings (search rules) c.loop-two.invariant
