-- The proof of the theorem that `taken_stands` stands for.
use Rattle.road.proofs.laws.taken_stands.Goals as goal
use Rattle.road.proofs.Listed.{taken}

pub returns : goal.returns
returns c = taken
