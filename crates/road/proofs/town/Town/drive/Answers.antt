-- The steps of the proof of `drive` that are not found by search.
use Rattle.std.proofs.Common.{◌+◌, ◌<◌, true, set, sym, subst, arith}
use Rattle.road.specs.Roads.{into}
use Rattle.road.specs.Faults.{begins}
use Rattle.road.specs.Model.{model}
use Rattle.road.proofs.Models.{size_model}
use Rattle.road.proofs.Legs.{Along, along_start, along_whole, along_end, along_stuck, along_more, begins_low}
use Rattle.road.proofs.town.Town.drive.Goals as goal

pub loop-i-init : goal.loop-i-init
loop-i-init c =
    along_start (model c.args.self.now) c.args.start c.args.legs.now

pub returns-then-not-begins : goal.returns-then-not-begins
returns-then-not-begins c =
    along_stuck (model c.args.self.now) c.args.start c.args.legs.now c.loop-i.i c.loop-i.at c.loop-i.marks c.loop-i.invariant
    c.from-leg.result c.loop-i-test.true c.from-leg.ensures (sym c.if-not-begins.ensures)

pub loop-i-preserved : goal.loop-i-preserved
loop-i-preserved c =
    let t = c.args.self.now in
    let there = sym {b = begins (model t) c.loop-i.at c.from-leg.result} c.if-not-begins.ensures in
    let low = begins_low (model t) c.loop-i.at c.from-leg.result there in
    let by : c.from-leg.result.by < 300 = omega (arith, size_model t) in
    subst (λ w. Along (model t) c.args.start c.args.legs.now (c.loop-i.i + 1) w (set c.loop-i.marks c.from-leg.result.by true)) (sym {b = into (model t) c.from-leg.result} c.end_of-at.ensures.is)
    (along_more (model t) c.args.start c.args.legs.now c.loop-i.i c.loop-i.at c.loop-i.marks c.loop-i.invariant
    c.from-leg.result c.loop-i-test.true c.from-leg.ensures there by)

pub returns : goal.returns
returns c =
    let t = model c.args.self.now in (
      along_whole t c.args.start c.args.legs.now c.loop-i.i c.loop-i.at c.loop-i.marks c.loop-i.invariant c.loop-i-test.false (omega arith),
      along_end t c.args.start c.args.legs.now c.loop-i.i c.loop-i.at c.loop-i.marks c.loop-i.invariant c.loop-i-test.false,
    )
