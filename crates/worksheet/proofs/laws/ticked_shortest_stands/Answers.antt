-- The proof of the theorem that `ticked_shortest_stands` stands for.
use Rattle.worksheet.proofs.Ticked.{ticked_shortest}
use Rattle.worksheet.proofs.laws.ticked_shortest_stands.Goals as goal

pub returns : goal.returns
returns c = ticked_shortest
