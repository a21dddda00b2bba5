-- The proof of the theorem that `word_at_street_stands` stands for.
use Rattle.sheet.proofs.laws.word_at_street_stands.Goals as goal
use Rattle.sheet.proofs.Judged.{word_at_street}

pub returns : goal.returns
returns c = word_at_street
