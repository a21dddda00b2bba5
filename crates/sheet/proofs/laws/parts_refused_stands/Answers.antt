-- The proof of the theorem that `parts_refused_stands` stands for.
use Rattle.sheet.proofs.laws.parts_refused_stands.Goals as goal
use Rattle.sheet.proofs.Taken.{parts_refused}

pub returns : goal.returns
returns c = parts_refused
