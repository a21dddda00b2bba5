-- The proof of the theorem that `at_most_twice_stands` stands for.
use Rattle.round.proofs.laws.at_most_twice_stands.Goals as goal
use Rattle.round.proofs.Rounds.{at_most_twice}

pub returns : goal.returns
returns c = at_most_twice
