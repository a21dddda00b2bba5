-- The proof of the theorem that `word_no_round_stands` stands for.
use Rattle.sheet.proofs.laws.word_no_round_stands.Goals as goal
use Rattle.sheet.proofs.Judged.{word_no_round}

pub returns : goal.returns
returns c = word_no_round
