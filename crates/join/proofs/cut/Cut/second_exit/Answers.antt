-- The step of the proof of `second_exit` that is not found by search.
use Rattle.std.proofs.Common.{arith, rules}
use borrow.Author.Tests.{tests}
use Rattle.road.specs.Model.{marked}
use Rattle.join.specs.Weights.{ground, side_of}
use Rattle.join.specs.Circuits.{Second}
use Rattle.road.proofs.Ranges.{first_in}
use Rattle.join.proofs.cut.Cut.second_exit.Goals as goal

pub returns : goal.returns
returns c =
    let Is = Second (ground c.args.self.now) (side_of c.args.self.now) (marked c.args.drives.now) (marked c.args.marks.now) c.args.first in
    first_in Is (λ k. Is k → ⊥) _ c.find.result c.find.ensures.ran (λ x q k. search (rules, tests)) (λ x q k. search (rules, tests)) (λ all k h. all k (omega arith) h) (λ k h y. (h, y))
