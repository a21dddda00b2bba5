-- The steps of the proof of `own_leg` that are not found by search.
use Rattle.std.proofs.Common.{◌≡◌, false, sym, ap, ◌∙◌, subst, ⊎_elim, arith}
use Rattle.std.proofs.lemmas.Bool.{cases_eq}
use Rattle.road.specs.Model.{marked}
use Rattle.road.proofs.Models.{size_model}
use Rattle.join.specs.Joins.{single}
use Rattle.join.specs.Borders.{street_at}
use Rattle.join.specs.Problems.{town_in}
use Rattle.join.proofs.Borders.{each_cut}
use Rattle.join.proofs.Incidence.{star_read, star_begin}
use Rattle.join.proofs.problem.Problem.own_leg.Goals as goal
use Rattle.join.proofs.problem.Problem.own_leg.Goals.{else-leg-k-via-then-leg-k+else-drives-leg, else-leg-k-via-else-leg-k}

pub loop-leg-preserved : goal.loop-leg-preserved
loop-leg-preserved c = λ i h ne. ⊎_elim
    (λ e. elim c.else-leg-k.branch [
      | else-leg-k-via-then-leg-k+else-drives-leg w ↦ subst (λ j. marked c.args.drives.now (street_at c.as_slice-leg-items.result.now j) ≡ false) (sym e) w.if-drives-leg.false
      | else-leg-k-via-else-leg-k w ↦ absurd (ne (ap (street_at c.as_slice-leg-items.result.now) e ∙ w.if-leg-k.false))
    ])
    (λ before. c.loop-leg.invariant i (omega arith) ne) (cases_eq i c.loop-leg.leg-index)

pub returns-then-drives-leg : goal.returns-then-drives-leg
returns-then-drives-leg c =
    let p = c.args.self.now in
    let v = c.args.v in
    let star = star_read (town_in p) p.stars.now p.streets.town.now.crossings p.rows v c.requires _ c.index-self-v.is _ c.as_slice-leg-items.ensures.value in
    let out = star.each c.loop-leg.leg-index c.loop-leg-test.true in
    (omega (arith, out.below, size_model p.streets.town.now), star_begin (town_in p) v _ out, c.if-leg-k.true, c.if-drives-leg.true)

pub returns : goal.returns
returns c =
    let p = c.args.self.now in
    let v = c.args.v in
    let star = star_read (town_in p) p.stars.now p.streets.town.now.crossings p.rows v c.requires _ c.index-self-v.is _ c.as_slice-leg-items.ensures.value in
    each_cut (town_in p) (single v) _ star (λ j. (j ≡ c.args.k → ⊥) → marked c.args.drives.now j ≡ false) (λ i lt. c.loop-leg.invariant i (omega (arith, c.loop-leg-test.false)))
