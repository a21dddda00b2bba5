-- What the loop of `tree` keeps, and what falls.
use Rattle.std.proofs.Common.{◌≡◌}
use Rattle.road.specs.Growth.{unmarked}
use Rattle.join.specs.Weights.{town_of}
use Rattle.join.specs.Components.{any_street, Grown}
use Rattle.join.proofs.component.Component.tree.Given as goal

abbrev pub invariant-loop : goal.invariant-loop
invariant-loop l = Grown (town_of l.streets) any_street l.tree × (l.tree.from ≡ l.from)

abbrev pub decreases-loop : goal.decreases-loop
decreases-loop l = unmarked l.tree.marks
