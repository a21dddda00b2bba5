-- What the loop of `come_to` keeps.
use Rattle.road.specs.Model.{model}
use Rattle.road.specs.Growth.{Grown, unmarked}
use Rattle.road.proofs.town.Town.come_to.Given as goal

abbrev pub invariant-loop : goal.invariant-loop
invariant-loop l = Grown (model l.self) l.self.depot l.marks

abbrev pub decreases-loop : goal.decreases-loop
decreases-loop l = unmarked l.marks
