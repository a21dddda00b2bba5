-- The proof of the theorem that `self_stands` stands for.
use Rattle.ways.proofs.laws.self_stands.Goals as goal
use Rattle.ways.proofs.Least.{least_self}

pub returns : goal.returns
returns c = least_self
