-- The proof of `room_suffices_stands`: the theorem.
use Rattle.round.proofs.Answering.{room_suffices}
use Rattle.round.proofs.laws.room_suffices_stands.Goals as goal

pub returns : goal.returns
returns c = room_suffices
