-- What the loop of `relax` keeps.
use Rattle.std.proofs.Common.{◌≡◌}
use Rattle.road.specs.Model.{model}
use Rattle.ways.specs.Relaxed.{Come, weights}
use Rattle.ways.proofs.ways.Ways.relax.Given as goal

abbrev pub invariant-loop : goal.invariant-loop
invariant-loop l = Come (model l.town) l.self × (l.self.start ≡ l.initial.self.start)

abbrev pub decreases-loop : goal.decreases-loop
decreases-loop l = weights l.self
