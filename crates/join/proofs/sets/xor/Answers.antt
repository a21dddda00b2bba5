-- The step of the proof of `xor` that is not found by search.
use Rattle.std.proofs.Common.{arith, rules}
use Rattle.road.specs.Model.{marked}
use Rattle.road.proofs.Parity.{unequal}
use Rattle.join.specs.Joins.{◌⊞◌}
use Rattle.join.proofs.StreetSets.{marks_each, none_past}
use Rattle.join.proofs.sets.xor.Goals as goal

pub returns : goal.returns
returns c =
    let a = c.args.a.now in
    let b = c.args.b.now in
    marks_each (marked a ⊞ marked b) c.from_fn.ensures.items (λ k y q l e. search (rules, unequal)) (λ k h. none_past a b k (omega arith) (omega arith))
