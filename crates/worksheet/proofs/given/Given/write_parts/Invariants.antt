-- What is written, and the parts that are left, are the lines of all parts.
use Rattle.std.proofs.Common.{◌≡◌, ◌++◌, drop, string_bytes}
use Rattle.road.specs.Model.{model}
use Rattle.worksheet.specs.Model.{parts_of}
use Rattle.worksheet.specs.Worksheet.{part_line, numbered}
use Rattle.worksheet.proofs.given.Given.write_parts.Given as goal

abbrev pub invariant-loop-i : goal.invariant-loop-i
invariant-loop-i l =
    string_bytes l.out ++ numbered (part_line (model l.self.town.now)) l.i (parts_of (drop l.i l.self.parts.now))
    ≡ string_bytes l.initial.out ++ numbered (part_line (model l.self.town.now)) 0 (parts_of l.self.parts.now)
