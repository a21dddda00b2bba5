-- The proof of the theorem that `accepted_stands` stands for.
use Rattle.sheet.proofs.laws.accepted_stands.Goals as goal
use Rattle.sheet.proofs.Right.{accepted}

pub returns : goal.returns
returns c = accepted
