-- Each leg so far is written.
use Rattle.std.proofs.Common.{◌≡◌, ◌++◌, take, string_bytes}
use Rattle.std.specs.List.{flat_map}
use Rattle.road.specs.Numbers.{legs_in}
use Rattle.text.specs.Plans.{leg_text}
use Rattle.text.proofs.plan_lines.write_legs.Given as goal

abbrev pub invariant-loop-leg : goal.invariant-loop-leg
invariant-loop-leg l = string_bytes l.out ≡ string_bytes l.initial.out ++ flat_map leg_text (legs_in (take l.leg-index l.legs))
