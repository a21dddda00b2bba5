-- The proof of the theorem that `price_least_stands` stands for.
use Rattle.join.proofs.laws.price_least_stands.Goals as goal
use Rattle.join.proofs.Certificates.{price_least}

pub returns : goal.returns
returns c = price_least
