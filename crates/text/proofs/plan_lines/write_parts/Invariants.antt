-- What is written, and the parts that are left, are the text of all parts.
use Rattle.std.proofs.Common.{◌≡◌, ◌+◌, ◌++◌, string_bytes}
use Rattle.std.specs.List.{flat_map}
use Rattle.std.specs.Slice.Iter.{chunks_exact_rest, chunks_exact_size}
use Rattle.sheet.specs.Numbers.{sheet_in}
use Rattle.text.specs.Plans.{part_line}
use Rattle.text.proofs.plan_lines.write_parts.Given as goal

abbrev pub invariant-loop-part : goal.invariant-loop-part
invariant-loop-part l = record {
  size : chunks_exact_size l.part-iterator ≡ 1 + l.crossings;
  written : string_bytes l.out ++ flat_map part_line (sheet_in l.crossings (chunks_exact_rest l.part-iterator)) ≡ string_bytes l.initial.out ++ flat_map part_line (sheet_in l.crossings l.numbers);
}
