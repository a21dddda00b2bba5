-- Each street so far is written.
use Rattle.std.proofs.Common.{◌≡◌, ◌++◌, take, string_bytes}
use Rattle.std.specs.List.{flat_map}
use Rattle.text.specs.Towns.{street_line}
use Rattle.text.proofs.town_lines.write_streets.Given as goal

abbrev pub invariant-loop-street : goal.invariant-loop-street
invariant-loop-street l = string_bytes l.out ≡ string_bytes l.initial.out ++ flat_map street_line (take l.street-index l.streets)
