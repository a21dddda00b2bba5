-- What the loop of `explore_within` keeps, and what falls.
use Rattle.std.proofs.Common.{◌≡◌, ◌≤◌}
use Rattle.road.specs.Growth.{unmarked}
use Rattle.join.specs.Weights.{town_of}
use Rattle.join.specs.Components.{any_street, Grown}
use Rattle.join.proofs.component.Component.explore_within.Given as goal

abbrev pub invariant-loop : goal.invariant-loop
invariant-loop l = Grown (town_of l.streets) any_street l.self × (l.self.from ≡ l.initial.self.from) × (unmarked l.self.marks ≤ unmarked l.initial.self.marks)

abbrev pub decreases-loop : goal.decreases-loop
decreases-loop l = unmarked l.self.marks
