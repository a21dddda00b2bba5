-- The step of the proof of `class_of` that is not found by search.
use Rattle.std.proofs.Common.{eqb, false, rules}
use Rattle.join.specs.Classes.{label_in}
use Rattle.road.proofs.FromFn.{holds_each}
use Rattle.join.proofs.Uniting.{class_marks}
use Rattle.join.proofs.partition.Classes.class_of.Goals as goal

pub returns : goal.returns
returns c =
    let k = c.args.self.now in
    let i = c.from_fn.ensures.items in
    class_marks c.from_fn.result k c.args.b i.long (λ v h. holds_each (λ v. eqb (label_in k v) (label_in k c.args.b)) i (λ v y q l e. search rules) v false h)
