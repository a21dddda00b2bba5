-- What the loop of `outs` keeps.
use Rattle.std.proofs.Common.{◌≡◌}
use Rattle.road.specs.Model.{marked}
use Rattle.join.specs.Weights.{ground}
use Rattle.join.proofs.Borders.{outs_taken}
use Rattle.join.proofs.border.Border.outs.Given as goal

abbrev pub invariant-loop-leg : goal.invariant-loop-leg
invariant-loop-leg l = l.outs ≡ outs_taken (ground l.self.cut) (marked l.drives) l.self.legs.now l.leg-index
