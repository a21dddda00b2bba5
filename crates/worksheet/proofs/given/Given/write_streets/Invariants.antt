-- What is written, and the streets that are left, are the lines of all streets.
use Rattle.std.proofs.Common.{◌≡◌, ◌++◌, drop, string_bytes}
use Rattle.road.specs.Model.{model}
use Rattle.worksheet.specs.Model.{parts_of}
use Rattle.worksheet.specs.Worksheet.{street_line, numbered}
use Rattle.worksheet.proofs.given.Given.write_streets.Given as goal

abbrev pub invariant-loop-k : goal.invariant-loop-k
invariant-loop-k l =
    string_bytes l.out ++ numbered (street_line (parts_of l.self.parts.now)) l.k (drop l.k (model l.self.town.now).streets)
    ≡ string_bytes l.initial.out ++ numbered (street_line (parts_of l.self.parts.now)) 0 (model l.self.town.now).streets
