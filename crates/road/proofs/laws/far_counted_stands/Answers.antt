-- The proof of the theorem that `far_counted_stands` stands for.
use Rattle.road.proofs.laws.far_counted_stands.Goals as goal
use Rattle.road.proofs.Drives.{far_sum}

pub returns : goal.returns
returns c = λ t v w ls d. far_sum t d
