-- The steps of the proof of `outs` that are not found by search.
use Rattle.std.proofs.Common.{sym, ap, ◌∙◌, arith}
use Rattle.road.specs.Counts.{bit}
use Rattle.road.specs.Model.{marked}
use Rattle.join.specs.Weights.{ground, side_of}
use Rattle.join.proofs.Borders.{outs_none, outs_more, outs_all, outs_small}
use Rattle.join.proofs.border.Border.outs.Goals as goal
use Rattle.join.proofs.border.Border.outs.Goals.{then-drives-leg, else-drives-leg}

pub loop-leg-init : goal.loop-leg-init
loop-leg-init c = sym (outs_none (ground c.args.self.now.cut) (marked c.args.drives.now) c.args.self.now.legs.now)

pub overflow_add-outs : goal.overflow_add-outs
overflow_add-outs c =
    let s = c.args.self.now in
    omega (arith, c.loop-leg.invariant, outs_small s.cut.town.now (marked c.args.drives.now) s.legs.now c.loop-leg.leg-index)

pub loop-leg-preserved : goal.loop-leg-preserved
loop-leg-preserved c =
    let s = c.args.self.now in
    let n = c.loop-leg.leg-index in
    let J = marked c.args.drives.now in
    let more = outs_more (ground s.cut) (side_of s.cut) J s.legs.now s.border n c.loop-leg-test.true in
    elim c.if-drives-leg.branch [
      | then-drives-leg w ↦ omega (arith, w.outs-is, c.loop-leg.invariant, more, ap bit w.if-drives-leg.true)
      | else-drives-leg w ↦ omega (arith, w.outs-is, c.loop-leg.invariant, more, ap bit w.if-drives-leg.false)
    ]

pub returns : goal.returns
returns c =
    let s = c.args.self.now in
    c.loop-leg.invariant ∙ outs_all (ground s.cut) (side_of s.cut) (marked c.args.drives.now) s.legs.now s.border c.loop-leg.leg-index c.loop-leg-test.false
