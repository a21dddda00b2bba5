-- What the loop of `lead_all` keeps.
use Rattle.std.specs.Bool.{⊤}
use Rattle.join.specs.Prices.{Lowered}
use Rattle.join.proofs.prices.Prices.lead_all.Given as goal

abbrev pub invariant-loop-x : goal.invariant-loop-x
invariant-loop-x l = Lowered l.initial.self l.self l.lower ⊤
