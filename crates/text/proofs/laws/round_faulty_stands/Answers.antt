-- The proof of the theorem that `round_faulty_stands` stands for.
use Rattle.text.proofs.laws.round_faulty_stands.Goals as goal
use Rattle.text.proofs.Told.{round_faulty}

pub returns : goal.returns
returns c = round_faulty
