-- The proof of `no_shorter_round_stands`: the theorem.
use Rattle.round.proofs.Answering.{no_shorter_round}
use Rattle.round.proofs.laws.no_shorter_round_stands.Goals as goal

pub returns : goal.returns
returns c = no_shorter_round
