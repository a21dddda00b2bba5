-- The step of the proof of `unmarked` that is not found by search.
use Rattle.std.proofs.Common.{not, ◌&&◌, ap, arith, rules}
use Rattle.std.proofs.lemmas.List.{get_or_past}
use Rattle.road.specs.Model.{marked}
use Rattle.join.proofs.StreetSets.{marks_each}
use Rattle.join.proofs.shift.unmarked.Goals as goal

pub returns : goal.returns
returns c =
    let R = marked c.args.reached.now in
    let Z = marked c.args.marks.now in
    marks_each (λ u. R u && not (Z u)) c.from_fn.ensures.items (λ u y q l e. search rules)
    (λ u h. ap (λ b. b && not (Z u)) (get_or_past c.args.reached.now u _ (omega (arith, c.told-reached))))
