-- The proof of the theorem that `street_stands` stands for.
use Rattle.ways.proofs.laws.street_stands.Goals as goal
use Rattle.ways.proofs.Least.{least_street}

pub returns : goal.returns
returns c = least_street
