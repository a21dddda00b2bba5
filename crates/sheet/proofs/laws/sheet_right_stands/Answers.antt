-- The proof of the theorem that `sheet_right_stands` stands for.
use Rattle.sheet.proofs.laws.sheet_right_stands.Goals as goal
use Rattle.sheet.proofs.Right.{sheet_right}

pub returns : goal.returns
returns c = sheet_right
