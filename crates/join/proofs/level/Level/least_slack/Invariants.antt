-- What the loop of `least_slack` keeps.
use Rattle.std.proofs.Common.{ℕ}
use Rattle.join.specs.Borders.{street_at}
use Rattle.join.specs.Potentials.{slack}
use Rattle.join.specs.Turns.{lengths_at, potential_at}
use Rattle.join.specs.Weights.{ground, side_of}
use Rattle.join.proofs.Leasts.{LeastOf}
use Rattle.join.proofs.level.Level.least_slack.Given as goal

abbrev pub invariant-loop-leg : goal.invariant-loop-leg
invariant-loop-leg l = LeastOf (λ (i : ℕ). slack (ground l.border.cut) (lengths_at l.self) (potential_at l.self) l.b (side_of l.border.cut) (street_at l.border.legs.now i)) l.leg-index l.least
