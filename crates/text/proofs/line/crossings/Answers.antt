-- One more word is read, and is no longer left; or it is no number; at the end all are read.
use Rattle.std.proofs.Common.{sym, ap, ◌∙◌, rules}
use Rattle.std.specs.Option.{ok_or}
use Rattle.text.specs.declared.line_fault.LineFault.TheVariants.{Part}
use Rattle.text.specs.Words.{number_in}
use Rattle.text.proofs.Each.{one_read, none_read, all_read}
use Rattle.text.proofs.line.crossings.Goals as goal

pub loop-word-preserved : goal.loop-word-preserved
loop-word-preserved c =
    one_read number_in c.loop-word.crossings.items c.push.new.self.items c.args.words.now c.loop-word.word-index _ c.in-Some.crossing _ c.loop-word.invariant (search rules) (sym c.number.ensures ∙ c.in-Some.is) c.in_ok-push.ensures.items

pub returns-in_default : goal.returns-in_default
returns-in_default c =
    ap (λ o. ok_or o Part) (none_read number_in c.loop-word.crossings.items c.args.words.now c.loop-word.word-index _ _ c.loop-word.invariant c.loop-word-test.true (sym c.number.ensures ∙ c.in_default.is))

pub returns : goal.returns
returns c = ap (λ o. ok_or o Part) (all_read number_in c.loop-word.crossings.items c.args.words.now c.loop-word.word-index _ c.loop-word.invariant c.loop-word-test.false)
