-- What the loop of `join_to_earlier` keeps.
use Rattle.std.proofs.Common.{ℕ, ◌<◌}
use Rattle.test_towns.specs.Streets.{AllJoin}
use Rattle.test_towns.proofs.rule.join_to_earlier.Given as goal

abbrev pub invariant-loop-one : goal.invariant-loop-one
invariant-loop-one l = (n : ℕ) → l.two < n → AllJoin n 1 l.initial.streets.items → AllJoin n 1 l.streets.items
