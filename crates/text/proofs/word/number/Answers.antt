-- A short word without a plus is parsed just if it is a number.
use Rattle.std.proofs.Common.{◌≢◌, get_or, ◌∙◌, rules, tests}
use Rattle.text.proofs.Words.{parsed}
use Rattle.text.proofs.word.number.Goals as goal
use Rattle.text.proofs.word.number.Goals.{in_default-via-then-as_bytes-lt1, in_default-via-else-as_bytes-lt1+in_default-1}

pub returns-in_default-2 : goal.returns-in_default-2
returns-in_default-2 c =
    let w = c.args.word.now in
    let plain : get_or w 0 0 ≢ 43 = elim c.in_default.branch [
      | in_default-via-then-as_bytes-lt1 b ↦ λ e. search (rules, tests)
      | in_default-via-else-as_bytes-lt1+in_default-1 b ↦ λ e. search (rules, tests)
    ] in
    c.ok.ensures.value ∙ parsed w c.parse.result c.parse.ensures.value.0 plain (search (rules, tests))
