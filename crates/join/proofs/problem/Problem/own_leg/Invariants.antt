-- What the loop of `own_leg` keeps.
use Rattle.std.proofs.Common.{◌≡◌, ℕ, ◌<◌, false}
use Rattle.road.specs.Model.{marked}
use Rattle.join.specs.Borders.{street_at}
use Rattle.join.proofs.problem.Problem.own_leg.Given as goal

abbrev pub invariant-loop-leg : goal.invariant-loop-leg
invariant-loop-leg l = (i : ℕ) → i < l.leg-index → (street_at l.leg-items i ≡ l.k → ⊥) → marked l.drives (street_at l.leg-items i) ≡ false
