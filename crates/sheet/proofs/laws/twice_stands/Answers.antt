-- The proof of the theorem that `twice_stands` stands for.
use Rattle.sheet.proofs.laws.twice_stands.Goals as goal
use Rattle.sheet.proofs.Right.{twice}

pub returns : goal.returns
returns c = twice
