-- What the loop of `lead_from` keeps.
use Rattle.std.specs.Bool.{⊤}
use Rattle.join.specs.Prices.{Lowered}
use Rattle.join.proofs.prices.Prices.lead_from.Given as goal

abbrev pub invariant-loop-leg : goal.invariant-loop-leg
invariant-loop-leg l = Lowered l.initial.self l.self l.lower ⊤
