-- The proof of the theorem that `euler_round_stands` stands for.
use Rattle.round.proofs.laws.euler_round_stands.Goals as goal
use Rattle.round.proofs.Euler.{euler_round}

pub returns : goal.returns
returns c = euler_round
