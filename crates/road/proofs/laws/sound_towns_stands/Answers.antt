-- The proof of the theorem that `sound_towns_stands` stands for.
use Rattle.road.proofs.laws.sound_towns_stands.Goals as goal
use Rattle.road.proofs.Listed.{sound_towns}

pub returns : goal.returns
returns c = sound_towns
