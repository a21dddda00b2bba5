-- The proof of the theorem that `word_shortest_stands` stands for.
use Rattle.sheet.proofs.laws.word_shortest_stands.Goals as goal
use Rattle.sheet.proofs.Judged.{word_shortest}

pub returns : goal.returns
returns c = word_shortest
