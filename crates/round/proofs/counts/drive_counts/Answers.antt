-- The steps of the proof of `drive_counts` that are not found by search.
use Rattle.std.proofs.Common.{false, rules}
use Rattle.round.proofs.Rooming.{byte_bit}
use Rattle.round.proofs.counts.drive_counts.Goals as goal

pub returns : goal.returns
returns c k h = search (rules, byte_bit, (c.map.ensures.items.at k false 0 h).2.met)
