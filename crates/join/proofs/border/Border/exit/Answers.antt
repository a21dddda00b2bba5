-- The steps of the proof of `exit` that are not found by search.
use Rattle.std.proofs.Common.{◌≡◌, false, sym, subst, ⊎_elim, arith}
use Rattle.std.proofs.lemmas.Bool.{cases_eq}
use Rattle.road.specs.Model.{marked}
use Rattle.join.specs.Borders.{street_at}
use Rattle.join.specs.Weights.{ground, side_of}
use Rattle.join.proofs.Borders.{each_cut}
use Rattle.join.proofs.border.Border.exit.Goals as goal

pub loop-leg-preserved : goal.loop-leg-preserved
loop-leg-preserved c = λ i h. ⊎_elim
    (λ e. subst (λ j. marked c.args.drives.now (street_at c.args.self.now.legs.now j) ≡ false) (sym e) c.if-drives-leg.false)
    (λ ne. c.loop-leg.invariant i (omega arith)) (cases_eq i c.loop-leg.leg-index)

pub returns : goal.returns
returns c = λ k h y.
    let s = c.args.self.now in
    each_cut (ground s.cut) (side_of s.cut) s.legs.now s.border (λ k. marked c.args.drives.now k ≡ false) (λ i lt. c.loop-leg.invariant i (omega (arith, c.loop-leg-test.false))) k y
