-- What the loop of `search` keeps.
use Rattle.std.proofs.Common.{◌≡◌}
use Rattle.road.specs.Model.{model, marked}
use Rattle.road.specs.Growth.{unmarked}
use Rattle.join.specs.Components.{Grown}
use Rattle.join.proofs.component.Component.search.Given as goal

abbrev pub invariant-loop : goal.invariant-loop
invariant-loop l = Grown (model l.graph.town.now) (marked l.graph.set.now) l.self × (l.self.from ≡ l.from)

abbrev pub decreases-loop : goal.decreases-loop
decreases-loop l = unmarked l.self.marks
