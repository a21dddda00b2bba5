-- The proof of the theorem that `extra_drives_stands` stands for.
use Rattle.join.proofs.laws.extra_drives_stands.Goals as goal
use Rattle.join.proofs.Theorem.{extra_drives}

pub returns : goal.returns
returns c = extra_drives
