-- The step of the proof of `own_labels` that is not found by search.
use Rattle.std.proofs.Common.{rules}
use Rattle.road.proofs.FromFn.{holds_each}
use Rattle.join.proofs.alone.own_labels.Goals as goal

pub returns : goal.returns
returns c v h = holds_each (λ k. k) c.from_fn.ensures.items (λ k y q l e. search rules) v 0 h
