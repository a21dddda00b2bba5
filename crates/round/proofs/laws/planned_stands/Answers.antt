-- The proof of the theorem that `planned_stands` stands for.
use Rattle.round.proofs.laws.planned_stands.Goals as goal
use Rattle.round.proofs.Planned.{planned}

pub returns : goal.returns
returns c = planned
