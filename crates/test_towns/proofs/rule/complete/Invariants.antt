-- What the loop of `complete` keeps.
use Rattle.test_towns.specs.Streets.{AllJoin}
use Rattle.test_towns.proofs.rule.complete.Given as goal

abbrev pub invariant-loop-two : goal.invariant-loop-two
invariant-loop-two l = AllJoin l.crossings 1 l.streets.items
