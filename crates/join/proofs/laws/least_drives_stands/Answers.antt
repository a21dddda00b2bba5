-- The proof of the theorem that `least_drives_stands` stands for.
use Rattle.join.proofs.laws.least_drives_stands.Goals as goal
use Rattle.join.proofs.Parts.{least_drives}

pub returns : goal.returns
returns c = least_drives
