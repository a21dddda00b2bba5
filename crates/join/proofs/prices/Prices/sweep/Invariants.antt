-- What the loop of `sweep` keeps.
use Rattle.join.specs.Prices.{Lowered, AllNear}
use Rattle.join.proofs.prices.Prices.sweep.Given as goal

abbrev pub invariant-loop-k : goal.invariant-loop-k
invariant-loop-k l = Lowered l.initial.self l.self l.lower (AllNear l.self l.k)
