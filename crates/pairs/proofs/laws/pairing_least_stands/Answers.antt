-- The proof of the theorem that `pairing_least_stands` stands for.
use Rattle.pairs.proofs.DepotExtra.{pairing_least_stands}
use Rattle.pairs.proofs.laws.pairing_least_stands.Goals as goal

pub returns : goal.returns
returns c = pairing_least_stands
