-- The proof of the theorem that `town_read_back_stands` stands for.
use Rattle.text.proofs.laws.town_read_back_stands.Goals as goal
use Rattle.text.proofs.TownBack.{town_read_back}

pub returns : goal.returns
returns c = town_read_back
