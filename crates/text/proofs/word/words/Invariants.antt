-- The words so far and those of the rest are the words of the line; the rest has no white space at its start.
use Rattle.std.proofs.Common.{◌≡◌, map, ◌<◌, ◌++◌, false, length, get_or}
use denote.Text.{Utf8}
use denote.Shadow.{shadow}
use Rattle.std.specs.Char.{is_ascii_whitespace}
use Rattle.text.proofs.Cutting.{before_hash}
use Rattle.text.proofs.word.words.Given as goal

abbrev pub invariant-loop-word : goal.invariant-loop-word
invariant-loop-word l =
    shadow (Utf8 l.rest)
    × (0 < length l.rest → is_ascii_whitespace (get_or l.rest 0 0) ≡ false)
    × (map (λ w. w.now) l.words.items ++ before_hash l.rest ≡ before_hash l.line)

abbrev pub decreases-loop-word : goal.decreases-loop-word
decreases-loop-word l = length l.rest
