-- What the lines tell is what the text tells.
use Rattle.std.proofs.Common.{true}
use Rattle.text.specs.Format.{town_from, town_numbers}
use Rattle.text.proofs.Telling.{told_by}
use Rattle.text.proofs.texts.TownText.read.Goals as goal

pub returns : goal.returns
returns c = told_by town_numbers town_from true c.in_ok-read.field-0 _ c.town.result (rw c.in_ok-read.was at c.read.ensures) c.town.ensures
