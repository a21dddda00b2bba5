-- What the loop of `grow` keeps.
use Rattle.road.specs.Model.{model}
use Rattle.road.specs.Growth.{Grown, Tried, Closed}
use Rattle.road.proofs.town.Town.grow.Given as goal

abbrev pub invariant-loop-k : goal.invariant-loop-k
invariant-loop-k l = Grown (model l.self) l.self.depot l.marks × Tried l.initial.marks l.marks l.more (Closed (model l.self) l.marks l.k)
