-- The proof of the theorem that `leg_refused_stands` stands for.
use Rattle.road.proofs.laws.leg_refused_stands.Goals as goal
use Rattle.road.proofs.Listed.{leg_refused}

pub returns : goal.returns
returns c = leg_refused
