-- The proof of the theorem that `worked_towns_stands` stands for.
use Rattle.sheet.proofs.laws.worked_towns_stands.Goals as goal
use Rattle.sheet.proofs.Examples.{worked_towns}

pub returns : goal.returns
returns c = worked_towns
