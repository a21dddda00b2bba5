-- The proof of the theorem that `euler_stands` stands for.
use Rattle.round.proofs.laws.euler_stands.Goals as goal
use Rattle.round.proofs.Euler.{euler}

pub returns : goal.returns
returns c = euler
