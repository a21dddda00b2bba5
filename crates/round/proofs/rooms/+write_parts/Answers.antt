-- The step of the proof of `write_parts` that is not found by search.
use Rattle.std.proofs.Common.{◌≡◌, length, subst, arith}
use Rattle.std.proofs.lemmas.List.{get_or_read}
use Rattle.join.specs.Certified.{no_stage}
use Rattle.round.proofs.Rooming.{marks_more}
use Rattle.round.proofs.rooms.+write_parts.Goals as goal

pub returns-then-is_part-clause-marks : goal.returns-then-is_part-clause-marks
returns-then-is_part-clause-marks t c =
    let ss = c.args.stages.now in
    let is = get_or_read ss 0 c.stage-item.result (omega arith) c.stage-item.is no_stage in
    let places = subst (λ s. length s.marks ≡ 100) is c.is_part.ensures.places in
    marks_more c.args.town.now.crossings c.args.town.now.depot ss (omega arith) (omega arith) c.write_parts.ensures.marks
