-- The steps of the proof of `write_front` that are not found by search.
use Rattle.std.proofs.Common.{set, ap, ◌∙◌, arith}
use Rattle.round.proofs.Rooming.{over_more, over_all}
use Rattle.round.proofs.rooms.write_front.Goals as goal

pub loop-i-preserved : goal.loop-i-preserved
loop-i-preserved g c =
    let number = g.T.Numbered.number in
    ap (λ xs. set xs c.loop-i.i c.number.result) c.loop-i.invariant
    ∙ over_more number c.args.items.now c.args.room.now c.loop-i.i c.index-items-i.result c.number.result (omega arith) c.requires.long
    (c.number.ensures ∙ ap number c.index-items-i.is)

pub returns : goal.returns
returns g c = c.loop-i.invariant ∙ over_all g.T.Numbered.number c.args.items.now c.args.room.now c.loop-i.i (omega arith)
