-- The proof of the theorem that `new_street_stands` stands for.
use Rattle.round.proofs.laws.new_street_stands.Goals as goal
use Rattle.round.proofs.Rounds.{new_street}

pub returns : goal.returns
returns c = new_street
