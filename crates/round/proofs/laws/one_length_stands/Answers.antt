-- The proof of `one_length_stands`: the theorem.
use Rattle.round.proofs.Answering.{one_length}
use Rattle.round.proofs.laws.one_length_stands.Goals as goal

pub returns : goal.returns
returns c = one_length
