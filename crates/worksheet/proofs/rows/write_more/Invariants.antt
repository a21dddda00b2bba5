-- Each number so far is written.
use Rattle.std.proofs.Common.{◌≡◌, ◌++◌, take, string_bytes}
use Rattle.worksheet.specs.Worksheet.{more_text}
use Rattle.worksheet.proofs.rows.write_more.Given as goal

abbrev pub invariant-loop-term : goal.invariant-loop-term
invariant-loop-term l = string_bytes l.out ≡ string_bytes l.initial.out ++ more_text (take l.term-index l.terms)
