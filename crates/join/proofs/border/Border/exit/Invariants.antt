-- What the loop of `exit` keeps.
use Rattle.std.proofs.Common.{◌≡◌, ℕ, ◌<◌, false}
use Rattle.road.specs.Model.{marked}
use Rattle.join.specs.Borders.{street_at}
use Rattle.join.proofs.border.Border.exit.Given as goal

abbrev pub invariant-loop-leg : goal.invariant-loop-leg
invariant-loop-leg l = (i : ℕ) → i < l.leg-index → marked l.drives (street_at l.self.legs.now i) ≡ false
