-- The steps of the proof of `add_out` that are not found by search.
use Rattle.std.proofs.Common.{◌+◌, vec_items, sym, ap, ◌∙◌, subst}
use Rattle.road.specs.Model.{marked}
use Rattle.join.specs.Problems.{town_in}
use Rattle.join.proofs.Incidence.{Starring, star_read, starring_start, starring_skip, starring_push, starring_end}
use Rattle.join.proofs.problem.Problem.add_out.Goals as goal
use Rattle.join.proofs.problem.Problem.add_out.Goals.{then-not-marks-end_of+in_ok-push, else-not-marks-end_of}

pub loop-leg-init : goal.loop-leg-init
loop-leg-init c =
    let p = c.args.self.now in
    let b = star_read (town_in p) p.stars.now p.streets.town.now.crossings p.rows c.args.v c.requires.below _ c.index-self-v.is _ c.as_slice-leg-items.ensures.value in
    starring_start (town_in p) (marked c.args.marks.now) c.args.v c.requires.marked _ b (vec_items c.args.legs.now) c.requires.before

pub loop-leg-preserved : goal.loop-leg-preserved
loop-leg-preserved c =
    let p = c.args.self.now in
    let t = town_in p in
    let Z = marked c.args.marks.now in
    let v = c.args.v in
    let star = c.as_slice-leg-items.result.now in
    let j = c.loop-leg.leg-index in
    let ls = vec_items c.loop-leg.legs in
    let b = star_read t p.stars.now p.streets.town.now.crossings p.rows v c.requires.below _ c.index-self-v.is star c.as_slice-leg-items.ensures.value in
    elim c.if-not-marks-end_of.branch [
      | then-not-marks-end_of+in_ok-push w ↦
          subst (Starring t Z v star (j + 1)) (sym (ap vec_items w.legs-is ∙ w.in_ok-push.ensures.items))
          (starring_push t Z v c.requires.marked star b j c.loop-leg-test.true ls c.loop-leg.invariant (ap Z (sym c.end_of.ensures.is) ∙ w.if-not-marks-end_of.true))
      | else-not-marks-end_of w ↦
          subst (λ xs. Starring t Z v star (j + 1) (vec_items xs)) (sym w.legs-is)
          (starring_skip t Z v c.requires.marked star b j c.loop-leg-test.true ls c.loop-leg.invariant (ap Z (sym c.end_of.ensures.is) ∙ w.if-not-marks-end_of.false))
    ]

pub returns : goal.returns
returns c =
    let p = c.args.self.now in
    let b = star_read (town_in p) p.stars.now p.streets.town.now.crossings p.rows c.args.v c.requires.below _ c.index-self-v.is _ c.as_slice-leg-items.ensures.value in
    starring_end (town_in p) (marked c.args.marks.now) c.args.v c.requires.marked _ b c.loop-leg.leg-index c.loop-leg-test.false (vec_items c.loop-leg.legs) c.loop-leg.invariant
