-- The proof of the theorem that `plan_read_back_stands` stands for.
use Rattle.text.proofs.laws.plan_read_back_stands.Goals as goal
use Rattle.text.proofs.TownBack.{plan_read_back}

pub returns : goal.returns
returns c = plan_read_back
