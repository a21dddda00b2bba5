-- The proof of the theorem that `one_line_stands` stands for.
use Rattle.files.proofs.Characters.{in_one_line}
use Rattle.files.proofs.laws.one_line_stands.Goals as goal

pub returns : goal.returns
returns c = in_one_line
