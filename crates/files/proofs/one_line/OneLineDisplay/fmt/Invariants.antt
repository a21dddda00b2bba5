-- Each character so far is shown.
use Rattle.std.proofs.Common.{map, encode_utf8_all}
use Rattle.std.specs.Fmt.{HasWritten, IsPlainFormatter}
use Rattle.files.specs.Names.{shown}
use Rattle.files.proofs.one_line.OneLineDisplay.fmt.Given as goal

abbrev pub invariant-loop-c : goal.invariant-loop-c
invariant-loop-c g l = IsPlainFormatter l.initial.f → HasWritten g.W.Write.write_str_gives l.initial.f (encode_utf8_all (map shown l.yielded)) l.f
