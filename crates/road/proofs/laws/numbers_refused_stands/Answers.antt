-- The proof of the theorem that `numbers_refused_stands` stands for.
use Rattle.road.proofs.laws.numbers_refused_stands.Goals as goal
use Rattle.road.proofs.Listed.{numbers_refused}

pub returns : goal.returns
returns c = numbers_refused
