-- The step of the proof of `stars` that is not found by search.
use Rattle.std.proofs.Common.{vec_items}
use Rattle.join.proofs.Gathering.{stars_all}
use Rattle.join.proofs.stars.stars.Goals as goal

pub returns : goal.returns
returns c = stars_all c.args.town.now c.loop-k.k c.args.town.now.crossings (vec_items c.loop-k.stars) c.loop-k.invariant c.loop-k-test.false
