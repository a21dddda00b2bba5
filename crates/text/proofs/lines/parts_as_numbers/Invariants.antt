-- The numbers so far and the parts that are left give what all parts give.
use Rattle.std.proofs.Common.{◌≡◌, [], drop}
use Rattle.text.proofs.Parts.{with_parts}
use Rattle.text.proofs.lines.parts_as_numbers.Given as goal

abbrev pub invariant-loop-part : goal.invariant-loop-part
invariant-loop-part l = with_parts l.crossings l.numbers.items (drop l.part-index l.parts) ≡ with_parts l.crossings [] l.parts
