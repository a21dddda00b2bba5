-- The proof of the theorem that `turned_stands` stands for.
use Rattle.ways.proofs.laws.turned_stands.Goals as goal
use Rattle.ways.proofs.Least.{least_turned}

pub returns : goal.returns
returns c = least_turned
