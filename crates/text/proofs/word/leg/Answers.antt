-- A word from which no 'b' was taken is driven forth.
use Rattle.std.proofs.Common.{◌≡◌, None, sym, ap, ◌∙◌, arith}
use Rattle.std.specs.Option.{option_and_then}
use Rattle.std.proofs.lemmas.Str.Pattern.{strip_suffix_char}
use Rattle.text.specs.Words.{number_in, leg_number}
use Rattle.text.proofs.Words.{forth}
use Rattle.text.proofs.word.leg.Goals as goal

pub returns-in_err-number-in-None : goal.returns-in_err-number-in-None
returns-in_err-number-in-None c =
    let w = c.args.word.now in
    let e : number_in w ≡ None = sym c.number-in-None.ensures ∙ c.in_err-number-in-None.was in
    c.from_residual-in_err-number-in-None.ensures ∙ sym (forth w (strip_suffix_char 98 w None c.in-None.ensures.cases (omega arith)) ∙ ap (option_and_then (leg_number 0)) e)

pub returns-in_ok-number-in-None : goal.returns-in_ok-number-in-None
returns-in_ok-number-in-None c =
    let w = c.args.word.now in
    let e : number_in w ≡ _ = sym c.number-in-None.ensures ∙ c.in_ok-number-in-None.was in
    c.leg_number-in-None.ensures ∙ sym (forth w (strip_suffix_char 98 w None c.in-None.ensures.cases (omega arith)) ∙ ap (option_and_then (leg_number 0)) e)
