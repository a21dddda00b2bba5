-- The proof of the theorem that `town_told_stands` stands for.
use Rattle.text.proofs.laws.town_told_stands.Goals as goal
use Rattle.text.proofs.Told.{town_told}

pub returns : goal.returns
returns c = town_told
