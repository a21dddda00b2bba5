-- The steps of the proof of `around` that are not found by search.
use Rattle.std.proofs.Common.{ap, ◌∙◌, ap₂}
use Rattle.road.specs.Model.{marked}
use Rattle.join.specs.Joins.{◌⊞◌, single}
use Rattle.join.proofs.partition.Classes.around.Goals as goal

pub returns : goal.returns
returns c =
    let k = c.args.circuit.now.out.street in
    let j = c.args.circuit.now.back.street in
    let there = c.xor-there.ensures ∙ ap₂ (λ J Q. J ⊞ Q) c.way_to.ensures c.way_to-2.ensures in
    let home = c.xor-home.ensures ∙ ap₂ (λ J Q. J ⊞ Q) c.way_to-3.ensures c.way_to-4.ensures in
    let out = c.flip-out.ensures ∙ ap (λ J. J ⊞ single k) there in
    let far = c.xor-far.ensures ∙ ap (λ J. J ⊞ marked c.args.circuit.now.far) out in
    let back = c.flip-back.ensures ∙ ap (λ J. J ⊞ single j) far in
    c.xor.ensures ∙ ap₂ (λ J Q. J ⊞ Q) back home
