-- What the checker says is the refusal that is due, or its word.
use Rattle.std.proofs.Common.{◌≡◌, rules}
use Rattle.sheet.proofs.Said.{said_answers}
use Rattle.sheet.specs.Words.{said, unless_refused}
use Rattle.text.specs.Format.{round_numbers}
use Rattle.text.specs.Texts.{no_check, word_on}
use Rattle.text.proofs.texts.RoundText.word.Goals as goal

pub returns : goal.returns
returns c =
    let x = round_numbers c.args.self.now in
    let e : said c.check_round.result ≡ unless_refused (no_check x) (word_on x) = search rules in
    said_answers (no_check x) (word_on x) c.check_round.result e
