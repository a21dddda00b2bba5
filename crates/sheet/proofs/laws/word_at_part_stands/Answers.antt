-- The proof of the theorem that `word_at_part_stands` stands for.
use Rattle.sheet.proofs.laws.word_at_part_stands.Goals as goal
use Rattle.sheet.proofs.Judged.{word_at_part}

pub returns : goal.returns
returns c = word_at_part
