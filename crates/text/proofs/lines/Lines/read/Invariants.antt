-- What is gathered so far, and the lines that are left, tell what all lines tell.
use Rattle.std.proofs.Common.{◌≡◌, List, [], ◌+◌, length, drop}
use Rattle.text.specs.Words.{lines_of}
use Rattle.text.specs.Entries.{Entry}
use Rattle.text.specs.Format.{entries}
use Rattle.text.specs.Gathered.{Gathered}
use Rattle.text.proofs.lines.Lines.read.Given as goal

abbrev pub invariant-loop-i : goal.invariant-loop-i
invariant-loop-i l = (es : List Entry) × Gathered l.alone es l.lines × (entries l.alone (length l.yielded + 1) es (drop (length l.yielded) (lines_of l.text)) ≡ entries l.alone 1 [] (lines_of l.text))
