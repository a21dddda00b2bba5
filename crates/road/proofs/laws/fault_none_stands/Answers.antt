-- The proof of the theorem that `fault_none_stands` stands for.
use Rattle.road.proofs.laws.fault_none_stands.Goals as goal
use Rattle.road.proofs.Faults.{fault_none}

pub returns : goal.returns
returns c = fault_none
