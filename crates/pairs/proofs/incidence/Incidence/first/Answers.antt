-- The step of the proof of `first` that is not found by search.
use Rattle.std.proofs.Common.{arith}
use Rattle.pairs.proofs.Incidences.{skips_past}
use Rattle.pairs.proofs.incidence.Incidence.first.Goals as goal

pub returns-else-at-self : goal.returns-else-at-self
returns-else-at-self c = skips_past c.args.self.now.town.now c.args.at (omega (arith, c.if-at-self.false))
