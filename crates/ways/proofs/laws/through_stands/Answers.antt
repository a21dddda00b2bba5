-- The proof of the theorem that `through_stands` stands for.
use Rattle.ways.proofs.laws.through_stands.Goals as goal
use Rattle.ways.proofs.Least.{least_through}

pub returns : goal.returns
returns c = least_through
