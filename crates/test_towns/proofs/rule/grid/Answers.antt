-- The steps of the proof of `grid` that are not found by search.
use Rattle.std.proofs.Common.{◌*◌, ◌+◌}
use Rattle.test_towns.specs.Streets.{AllJoin}
use Rattle.test_towns.proofs.Streets.{join_push, next_in_row}
use Rattle.test_towns.proofs.rule.grid.Goals as goal
use Rattle.test_towns.proofs.rule.grid.Goals.{then-v-row+in_ok-push, else-v-row, then-v-row-2+in_ok-push-2, else-v-row-2}

pub loop-v-preserved : goal.loop-v-preserved
loop-v-preserved c =
    let across : AllJoin (c.from-row.result * c.from.result) c.args.metres c.if-v-row.streets.items =
    elim c.if-v-row.branch [
      | then-v-row+in_ok-push w ↦
          join_push _ _ c.loop-v.v (c.loop-v.v + 1) _ _ (rw w.streets-is w.in_ok-push.ensures.items) c.loop-v.invariant c.loop-v-test.true
          (next_in_row c.loop-v.v c.from-row.result c.from.result c.loop-v-test.true w.if-v-row.true)
      | else-v-row w ↦ rw w.streets-is c.loop-v.invariant
    ]
    in
    elim c.if-v-row-2.branch [
      | then-v-row-2+in_ok-push-2 w ↦
          join_push _ _ c.loop-v.v (c.loop-v.v + c.from-row.result) _ _ (rw w.streets-is w.in_ok-push-2.ensures.items) across c.loop-v-test.true w.if-v-row-2.true
      | else-v-row-2 w ↦ rw w.streets-is across
    ]
