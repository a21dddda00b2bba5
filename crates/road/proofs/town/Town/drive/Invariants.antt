-- What the loop of `drive` keeps.
use Rattle.road.specs.Model.{model}
use Rattle.road.proofs.Legs.{Along}
use Rattle.road.proofs.town.Town.drive.Given as goal

abbrev pub invariant-loop-i : goal.invariant-loop-i
invariant-loop-i l = Along (model l.self) l.start l.legs l.i l.at l.marks
