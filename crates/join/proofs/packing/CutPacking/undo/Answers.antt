-- The steps of the proof of `undo` that are not found by search.
use Rattle.join.proofs.Descending.{back_fits, back_low, undo_after, undo_held, undo_over, undo_listed}
use Rattle.join.proofs.packing.CutPacking.undo.Goals as goal

pub restore-requires : goal.restore-requires
restore-requires c =
    let a = c.args.self.now in
    let r = c.requires in
    let v = c.args.level.now in
    record { listed = undo_listed a _ r.below v r.after _ c.index-self-i.is _ c.index-self-i-2.is _ c.as_slice-legs.ensures.value; streets = back_fits a _ r.below v r.after _ c.index-self-i.is; crossings = back_low a _ r.below v r.after _ c.index-self-i.is }

pub invariant_of-cut : goal.invariant_of-cut
invariant_of-cut c =
    let r = c.requires in
    let d = c.restore.ensures in
    record { border = undo_listed c.args.self.now _ r.below c.args.level.now r.after _ c.index-self-i.is _ c.index-self-i-2.is _ c.as_slice-legs.ensures.value; held = undo_held c.args.self.now _ r.below c.args.level.now r.after _ c.index-self-i.is c.restore.new.self d.streets d.crossings }

pub carry-requires : goal.carry-requires
carry-requires c =
    let r = c.requires in
    let d = c.restore.ensures in
    undo_over c.args.self.now _ r.below c.args.level.now r.after _ c.index-self-i.is c.restore.new.self d.streets d.crossings _ _ r.cheaper

pub returns-clause-after : goal.returns-clause-after
returns-clause-after c =
    let r = c.requires in
    let d = c.restore.ensures in
    undo_after c.args.self.now _ r.below c.args.level.now r.after _ c.index-self-i.is c.restore.new.self d.streets d.crossings
