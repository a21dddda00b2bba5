-- The proof of the theorem that `depot_refused_stands` stands for.
use Rattle.road.proofs.laws.depot_refused_stands.Goals as goal
use Rattle.road.proofs.Listed.{depot_refused}

pub returns : goal.returns
returns c = depot_refused
