-- The proof of the theorem that `fault_round_stands` stands for.
use Rattle.road.proofs.laws.fault_round_stands.Goals as goal
use Rattle.road.proofs.Faults.{fault_round}

pub returns : goal.returns
returns c = fault_round
