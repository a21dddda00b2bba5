-- The proof of the theorem that `fault_leg_stands` stands for.
use Rattle.road.proofs.laws.fault_leg_stands.Goals as goal
use Rattle.road.proofs.Faults.{fault_leg}

pub returns : goal.returns
returns c = fault_leg
