-- The step of the proof of `outside` that is not found by search.
use Rattle.std.proofs.Common.{false, rules}
use Rattle.road.specs.Model.{marked}
use Rattle.join.specs.Weights.{ground, side_of}
use Rattle.join.specs.Circuits as circuits
use Rattle.road.proofs.FromFn.{holds_each}
use Rattle.join.proofs.cut.Cut.outside.Goals as goal

pub returns : goal.returns
returns c k h =
    let a = c.args in
    holds_each (circuits.outside (ground a.self.now) (side_of a.self.now) (marked a.drives.now) (marked a.base.now)) c.from_fn.ensures.items (λ k y q l e. search rules) k false h
