-- The proof of the theorem that `let_through_stands` stands for.
use Rattle.road.proofs.laws.let_through_stands.Goals as goal
use Rattle.road.proofs.Listed.{let_through}

pub returns : goal.returns
returns c = let_through
