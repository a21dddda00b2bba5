-- The proof of the theorem that `town_faulty_stands` stands for.
use Rattle.text.proofs.laws.town_faulty_stands.Goals as goal
use Rattle.text.proofs.Told.{town_faulty}

pub returns : goal.returns
returns c = town_faulty
