-- The numbers so far and the words that are left give what all words give.
use Rattle.std.proofs.Common.{◌≡◌, map, drop}
use Rattle.text.specs.Words.{each, leg_in}
use Rattle.text.proofs.Each.{with_rest}
use Rattle.text.proofs.line.legs.Given as goal

abbrev pub invariant-loop-word : goal.invariant-loop-word
invariant-loop-word l = with_rest leg_in l.legs.items (drop l.word-index l.words) ≡ each leg_in (map (λ w. w.now) l.words)
