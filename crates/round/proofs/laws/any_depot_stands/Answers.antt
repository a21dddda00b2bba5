-- The proof of the theorem that `any_depot_stands` stands for.
use Rattle.round.proofs.laws.any_depot_stands.Goals as goal
use Rattle.round.proofs.Rounds.{any_depot}

pub returns : goal.returns
returns c = any_depot
