-- What the lines tell is what the text tells.
use Rattle.std.proofs.Common.{false}
use Rattle.text.specs.Format.{round_from, round_numbers}
use Rattle.text.proofs.Telling.{told_by}
use Rattle.text.proofs.texts.RoundText.read.Goals as goal

pub returns : goal.returns
returns c = told_by round_numbers round_from false c.in_ok-read.field-0 _ c.round.result (rw c.in_ok-read.was at c.read.ensures) c.round.ensures
