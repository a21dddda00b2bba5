-- What the loop of `end_of_drive` keeps.
use Rattle.std.proofs.Common.{ℕ, drop}
use Rattle.std.specs.Prelude.{◌↔◌}
use Rattle.road.specs.Roads.{Drive}
use Rattle.road.specs.Model.{model}
use Rattle.test_towns.proofs.drive.end_of_drive.Given as goal

abbrev pub invariant-loop-leg : goal.invariant-loop-leg
invariant-loop-leg l = (w : ℕ) → Drive (model l.town) l.fn.start l.legs w ↔ Drive (model l.town) l.at (drop l.leg-index l.legs) w
