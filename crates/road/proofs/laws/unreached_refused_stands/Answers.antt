-- The proof of the theorem that `unreached_refused_stands` stands for.
use Rattle.road.proofs.laws.unreached_refused_stands.Goals as goal
use Rattle.road.proofs.Listed.{unreached_refused}

pub returns : goal.returns
returns c = unreached_refused
