-- What falls: the classes that are left.
use Rattle.std.proofs.Common.{length}
use Rattle.round.proofs.rooms.+write_parts.Given as goal

abbrev pub decreases-write_parts : goal.decreases-write_parts
decreases-write_parts l = length l.stages.now
