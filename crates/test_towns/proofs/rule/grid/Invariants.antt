-- What the loop of `grid` keeps.
use Rattle.test_towns.specs.Streets.{AllJoin}
use Rattle.test_towns.proofs.rule.grid.Given as goal

abbrev pub invariant-loop-v : goal.invariant-loop-v
invariant-loop-v l = AllJoin l.crossings l.metres l.streets.items
