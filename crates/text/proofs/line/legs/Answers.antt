-- One more word is read, and is no longer left; or it is no leg; at the end all are read.
use Rattle.std.proofs.Common.{sym, ap, ◌∙◌, rules}
use Rattle.std.specs.Option.{ok_or, option_map}
use Rattle.text.specs.declared.line_fault.LineFault.TheVariants.{Round}
use Rattle.text.specs.Entries.{RoundIs}
use Rattle.text.specs.Words.{leg_in}
use Rattle.text.proofs.Each.{one_read, none_read, all_read}
use Rattle.text.proofs.line.legs.Goals as goal

pub loop-word-preserved : goal.loop-word-preserved
loop-word-preserved c =
    one_read leg_in c.loop-word.legs.items c.push.new.self.items c.args.words.now c.loop-word.word-index _ c.in-Some.leg _ c.loop-word.invariant (search rules) (sym c.leg.ensures ∙ c.in-Some.is) c.in_ok-push.ensures.items

pub returns-in_default : goal.returns-in_default
returns-in_default c =
    ap (λ o. ok_or (option_map RoundIs o) Round) (none_read leg_in c.loop-word.legs.items c.args.words.now c.loop-word.word-index _ _ c.loop-word.invariant c.loop-word-test.true (sym c.leg.ensures ∙ c.in_default.is))

pub returns : goal.returns
returns c = ap (λ o. ok_or (option_map RoundIs o) Round) (all_read leg_in c.loop-word.legs.items c.args.words.now c.loop-word.word-index _ c.loop-word.invariant c.loop-word-test.false)
