-- The step of the proof of `add_leg` that is not found by search.
use Rattle.std.proofs.Common.{vec_items}
use Rattle.join.proofs.Gathering.{pushed_row}
use Rattle.join.proofs.stars.add_leg.Goals as goal

pub returns : goal.returns
returns c = pushed_row (vec_items c.args.stars.now) c.args.v c.args.leg c.index_mut.result.now c.push.new.self c.requires c.index_mut.ensures.value c.in_ok-push.ensures.items
