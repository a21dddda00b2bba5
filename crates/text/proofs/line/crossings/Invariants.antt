-- The numbers so far and the words that are left give what all words give.
use Rattle.std.proofs.Common.{◌≡◌, map, drop}
use Rattle.text.specs.Words.{each, number_in}
use Rattle.text.proofs.Each.{with_rest}
use Rattle.text.proofs.line.crossings.Given as goal

abbrev pub invariant-loop-word : goal.invariant-loop-word
invariant-loop-word l = with_rest number_in l.crossings.items (drop l.word-index l.words) ≡ each number_in (map (λ w. w.now) l.words)
