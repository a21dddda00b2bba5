-- The proof of the theorem that `word_apart_stands` stands for.
use Rattle.sheet.proofs.laws.word_apart_stands.Goals as goal
use Rattle.sheet.proofs.Judged.{word_apart}

pub returns : goal.returns
returns c = word_apart
