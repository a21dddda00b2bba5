-- The step of the proof of `count` that is not found by search.
use Rattle.std.proofs.Common.{sym}
use Rattle.sheet.proofs.Places.{count_is}
use Rattle.sheet.proofs.parts.Parts.count.Goals as goal

pub returns : goal.returns
returns c = sym (count_is c.args.self.now)
