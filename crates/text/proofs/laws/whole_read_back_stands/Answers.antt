-- The proof of the theorem that `whole_read_back_stands` stands for.
use Rattle.text.proofs.laws.whole_read_back_stands.Goals as goal
use Rattle.text.proofs.TownBack.{whole_read_back}

pub returns : goal.returns
returns c = whole_read_back
