-- The proof of the theorem that `parts_taken_stands` stands for.
use Rattle.sheet.proofs.laws.parts_taken_stands.Goals as goal
use Rattle.sheet.proofs.Taken.{parts_taken}

pub returns : goal.returns
returns c = parts_taken
