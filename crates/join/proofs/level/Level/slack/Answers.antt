-- The steps of the proof of `slack` that are not found by search.
use Rattle.std.proofs.Common.{◌+◌, ◌-◌, ◌/◌, ap, ◌∙◌, arith}
use Rattle.std.proofs.lemmas.Int.{ints}
use Rattle.join.specs.Weights.{ground, side_of}
use Rattle.join.specs.Turns.{lengths_at, potential_at}
use Rattle.join.proofs.Borders.{leads_outer}
use Rattle.join.proofs.Stages.{room_cut}
use Rattle.join.proofs.level.Level.slack.Goals as goal

pub overflow_sub-self : goal.overflow_sub-self
overflow_sub-self c =
    let f = c.args.self.now in
    let y = c.end_of-y.result in
    omega (arith, ints, f.whole_potential y, f.whole c.args.leg.by, f.whole_potential c.args.b, f.high y, f.most c.args.leg.by, f.high c.args.b)

pub returns : goal.returns
returns c =
    let t = ground c.args.border.now.cut in
    let Z = side_of c.args.border.now.cut in
    let f = c.args.self.now in
    let g = potential_at c.args.self.now in
    let l = lengths_at c.args.self.now in
    let b = c.args.b in
    let k = c.args.leg.by in
    let y = c.end_of-y.result in
    let o = c.requires.out in
    let r = room_cut t l g b Z 1 c.requires.room k o.below o.cuts in
    let at = c.end_of-y.ensures.is ∙ leads_outer t Z c.args.leg o in
    let same = ap g at in
    let e = c.half.ensures (g y + l k - g b) (omega (arith, ints, f.whole_potential y, f.whole k, f.whole_potential b, f.high y, f.most k, f.high b, r, same)) in
    let s = ap (λ u. (g u + l k - g b) / 2) at in
    omega (arith, ints, e, s, f.high y, f.most k)
