-- The step of the proof of `tree` that is not found by search.
use Rattle.join.specs.Weights.{town_of}
use Rattle.join.specs.Components.{any_street}
use Rattle.join.proofs.component.Component.tree.Goals as goal

pub loop-init : goal.loop-init
loop-init c = let e = c.in_ok-tree.ensures in (e.1 (town_of c.args.streets.now) any_street, e.0)
