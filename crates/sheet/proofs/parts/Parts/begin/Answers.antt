-- The steps of the proof of `begin` that are not found by search.
use Rattle.std.proofs.Common.{arith}
use Rattle.sheet.proofs.Places.{part_within}
use Rattle.sheet.proofs.parts.Parts.begin.Goals as goal

pub overflow_mul-result : goal.overflow_mul-result
overflow_mul-result c = grind (arith, part_within c.args.self.now c.args.i c.requires)

pub returns-clause-room : goal.returns-clause-room
returns-clause-room c = part_within c.args.self.now c.args.i c.requires
