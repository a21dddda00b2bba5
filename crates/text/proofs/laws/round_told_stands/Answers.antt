-- The proof of the theorem that `round_told_stands` stands for.
use Rattle.text.proofs.laws.round_told_stands.Goals as goal
use Rattle.text.proofs.Told.{round_told}

pub returns : goal.returns
returns c = round_told
