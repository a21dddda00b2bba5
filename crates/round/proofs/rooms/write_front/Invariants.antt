-- What the loop of `write_front` keeps.
use Rattle.std.proofs.Common.{◌≡◌, map, take}
use Rattle.round.specs.Rooms.{over}
use Rattle.round.proofs.rooms.write_front.Given as goal

abbrev pub invariant-loop-i : goal.invariant-loop-i
invariant-loop-i g l = l.room ≡ over (map g.T.Numbered.number (take l.i l.items)) l.initial.room
