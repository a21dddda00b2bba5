-- The steps of the proof of `legs_out` that are not found by search.
use Rattle.std.proofs.Common.{◌+◌, vec_items, sym, subst, arith}
use Rattle.road.specs.Model.{marked}
use Rattle.join.specs.Borders.{BorderedFrom}
use Rattle.join.specs.Problems.{town_in}
use Rattle.join.proofs.Incidence.{from_none, from_past, from_all}
use Rattle.join.proofs.problem.Problem.legs_out.Goals as goal
use Rattle.join.proofs.problem.Problem.legs_out.Goals.{then-marks-v+in_ok-add_out, else-marks-v}

pub loop-v-init : goal.loop-v-init
loop-v-init c =
    let t = town_in c.args.self.now in
    let Z = marked c.args.marks.now in
    subst (BorderedFrom t Z 0) (sym c.in_ok-legs.ensures.items) (from_none t Z)

pub loop-v-preserved : goal.loop-v-preserved
loop-v-preserved c =
    let t = town_in c.args.self.now in
    let Z = marked c.args.marks.now in
    let v = c.loop-v.v in
    elim c.if-marks-v.branch [
      | then-marks-v+in_ok-add_out w ↦ subst (λ xs. BorderedFrom t Z (v + 1) (vec_items xs)) (sym w.legs-is) w.in_ok-add_out.ensures
      | else-marks-v w ↦ subst (λ xs. BorderedFrom t Z (v + 1) (vec_items xs)) (sym w.legs-is) (from_past t Z v (vec_items c.loop-v.legs) c.loop-v.invariant w.if-marks-v.false)
    ]

pub returns : goal.returns
returns c =
    let p = c.args.self.now in
    let Z = marked c.args.marks.now in
    from_all p.streets.town.now Z (vec_items c.loop-v.legs) (subst (λ n. BorderedFrom (town_in p) Z n (vec_items c.loop-v.legs)) (omega (arith, c.loop-v.auto.v-end, c.loop-v-test.false)) c.loop-v.invariant)
