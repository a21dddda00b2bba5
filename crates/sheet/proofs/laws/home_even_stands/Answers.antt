-- The proof of the theorem that `home_even_stands` stands for.
use Rattle.sheet.proofs.laws.home_even_stands.Goals as goal
use Rattle.sheet.proofs.Borders.{home_even}

pub returns : goal.returns
returns c = home_even
