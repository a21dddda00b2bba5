-- The proof of the theorem that `fault_home_stands` stands for.
use Rattle.road.proofs.laws.fault_home_stands.Goals as goal
use Rattle.road.proofs.Faults.{fault_home}

pub returns : goal.returns
returns c = fault_home
