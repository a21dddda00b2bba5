-- The proof of the theorem that `fault_street_stands` stands for.
use Rattle.road.proofs.laws.fault_street_stands.Goals as goal
use Rattle.road.proofs.Faults.{fault_street}

pub returns : goal.returns
returns c = fault_street
