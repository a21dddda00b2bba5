-- What the loop of `absorb` keeps.
use Rattle.road.specs.Model.{marked}
use Rattle.join.specs.Classes.{Absorbed}
use Rattle.join.proofs.partition.Classes.absorb.Given as goal

abbrev pub invariant-loop-v : goal.invariant-loop-v
invariant-loop-v l = Absorbed l.from l.to (marked l.link) l.initial.self l.self l.v
