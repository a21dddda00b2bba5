-- What is written, and the crossings that are left, are the text of all crossings.
use Rattle.std.proofs.Common.{◌≡◌, ◌++◌, drop, string_bytes}
use Rattle.sheet.specs.Numbers.{marks_in}
use Rattle.text.specs.Plans.{marks_text}
use Rattle.text.proofs.plan_lines.write_marks.Given as goal

abbrev pub invariant-loop-v : goal.invariant-loop-v
invariant-loop-v l = string_bytes l.out ++ marks_text l.v (marks_in (drop l.v l.marks)) ≡ string_bytes l.initial.out ++ marks_text 0 (marks_in l.marks)
