-- The proof of the theorem that `sheet_agrees_stands` stands for.
use Rattle.join.proofs.laws.sheet_agrees_stands.Goals as goal
use Rattle.join.proofs.Parts.{sheet_agrees}

pub returns : goal.returns
returns c = sheet_agrees
