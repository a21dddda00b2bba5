-- The proof of the theorem that `street_refused_stands` stands for.
use Rattle.road.proofs.laws.street_refused_stands.Goals as goal
use Rattle.road.proofs.Listed.{street_refused}

pub returns : goal.returns
returns c = street_refused
