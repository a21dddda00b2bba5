-- What the loop of `grow` keeps.
use Rattle.std.proofs.Common.{◌≡◌}
use Rattle.road.specs.Model.{model, marked}
use Rattle.road.specs.Growth.{Tried}
use Rattle.join.specs.Components.{Grown, Closed}
use Rattle.join.proofs.component.Component.grow.Given as goal

abbrev pub invariant-loop-k : goal.invariant-loop-k
invariant-loop-k l =
    Grown (model l.graph.town.now) (marked l.graph.set.now) l.self × (l.self.from ≡ l.initial.self.from)
    × Tried l.initial.self.marks l.self.marks l.more (Closed (model l.graph.town.now) (marked l.graph.set.now) l.self.marks l.k)
