-- The steps of the proof of `check_fronts` that are not found by search.
use native.Mathlib.Nat.{sub-zero}
use Rattle.round.proofs.check.check_fronts.Goals as goal

pub returns : goal.returns
returns c = simp sub-zero at c.check_round.ensures.word
