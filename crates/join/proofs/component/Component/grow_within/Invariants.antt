-- What the loop of `grow_within` keeps.
use Rattle.std.proofs.Common.{◌≡◌}
use Rattle.road.specs.Growth.{Tried}
use Rattle.join.specs.Weights.{town_of}
use Rattle.join.specs.Components.{any_street, Grown, ClosedWithin}
use Rattle.join.proofs.component.Component.grow_within.Given as goal

abbrev pub invariant-loop-k : goal.invariant-loop-k
invariant-loop-k l =
    Grown (town_of l.streets) any_street l.self × (l.self.from ≡ l.initial.self.from)
    × Tried l.initial.self.marks l.self.marks l.more (ClosedWithin l.streets l.bound l.self.marks l.k)
