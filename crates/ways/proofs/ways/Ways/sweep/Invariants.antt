-- What the loop of `sweep` keeps.
use Rattle.road.specs.Model.{model}
use Rattle.ways.specs.Relaxed.{Come, Tried, Closed}
use Rattle.ways.proofs.ways.Ways.sweep.Given as goal

abbrev pub invariant-loop-k : goal.invariant-loop-k
invariant-loop-k l = Come (model l.town) l.self × Tried l.initial.self l.self l.more (Closed (model l.town) l.self l.k)
