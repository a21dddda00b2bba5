-- The steps of the proof of `absorb` that are not found by search.
use Rattle.std.proofs.Common.{refl, ap, ◌∙◌}
use Rattle.road.specs.Model.{marked}
use Rattle.join.specs.Joins.{◌⊞◌}
use Rattle.join.proofs.Uniting.{absorbed_more, absorbed_past}
use Rattle.join.proofs.partition.Classes.absorb.Goals as goal
use Rattle.join.proofs.partition.Classes.absorb.Goals.{then-self-v, else-self-v}

pub loop-v-preserved : goal.loop-v-preserved
loop-v-preserved c =
    let link = marked c.args.link.now in
    elim c.if-self-v.branch [
      | then-self-v w ↦
          rw w.self-is (absorbed_more c.args.from c.args.to link _ c.loop-v.self c.loop-v.v c.loop-v.invariant w.xor.result
          c.loop-v-test.true w.if-self-v.true (w.xor.ensures ∙ ap (λ J. link ⊞ J) w.way_to.ensures) _ refl refl)
      | else-self-v w ↦
          rw w.self-is (absorbed_past c.args.from c.args.to link _ c.loop-v.self c.loop-v.v c.loop-v.invariant w.if-self-v.false)
    ]
