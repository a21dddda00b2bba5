-- The steps of the proof of `write_plan` that are not found by search.
use Rattle.std.proofs.Common.{◌≡◌, ℕ, ◌+◌, ◌*◌, ◌≤◌, nat_le, None, length, get_or, sym, refl, ap, ◌∙◌, subst, mul-le-mul, arith}
use Rattle.std.proofs.lemmas.List.{get_or_default}
use Rattle.road.specs.declared.leg.Leg.{Leg}
use Rattle.road.specs.First.{unless}
use Rattle.road.specs.Laws.{no_leg}
use Rattle.road.proofs.Parity.{bit_most}
use Rattle.road.proofs.Models.{size_model}
use Rattle.join.specs.Certified.{sheet_of}
use Rattle.join.specs.Laws.{town_of, depot_of, sheet_from}
use Rattle.join.proofs.Pairing.{drive_low}
use Rattle.join.proofs.Parts.{least_drives}
use Rattle.pairs.specs.Pairings.{depot_extra}
use Rattle.sheet.specs.Numbers.{sheet_numbers, AllMarked}
use Rattle.round.specs.Rooms.{over}
use Rattle.round.proofs.Planning.{round_far, written_fits}
use Rattle.round.proofs.write.write_plan.Goals as goal

pub overflow_mul-count : goal.overflow_mul-count
overflow_mul-count c =
    let s = c.args.least.now in
    let t = s.town.now.town in
    let e = c.count_parts-count.ensures ∙ ap (λ ss. length (sheet_of t.crossings (depot_of s) ss)) c.as_slice-stages.ensures.value in
    let few : c.count_parts-count.result ≤ 400 = omega (arith, e, (least_drives s).few) in
    let wide : 1 + t.crossings ≤ 101 = omega (arith, t.most) in
    omega (arith, mul-le-mul few wide)

pub write_front-requires-clause-small : goal.write_front-requires-clause-small
write_front-requires-clause-small c k d h =
    let s = c.args.least.now in
    let t = s.town.now.town in
    let ls = c.args.round.now in
    let low = drive_low (town_of s) (omega (arith, size_model t, t.few)) c.requires.round.drive in
    omega (arith, low k h, ap (λ (l : Leg). l.by) (get_or_default ls k d no_leg h), bit_most (get_or ls k d).back)

pub returns : goal.returns
returns c =
    let s = c.args.least.now in
    let t = town_of s in
    let ls = c.args.round.now in
    let ps = sheet_from s in
    let same = c.as_slice-stages.ensures.value in
    let n = s.town.now.town.crossings in
    let count = c.count_parts-count.ensures ∙ ap (λ ss. length (sheet_of n (depot_of s) ss)) same in
    written_fits t ls ps c.args.legs.now c.args.parts.now _ _ _ c.in_ok-check_room.ensures.0
    (subst (λ m. unless {B = ℕ × ℕ} (nat_le (m * (1 + n)) (length c.args.parts.now)) (6, m * (1 + n)) ≡ None) count c.in_ok-check_room-2.ensures.0) (record {
      round = c.write_front.ensures;
      sheet = c.write_parts.ensures.written ∙ ap (λ ss. over (sheet_numbers (sheet_of n (depot_of s) ss)) c.args.parts.now) same;
      marks = subst (λ ss. AllMarked n (sheet_of n (depot_of s) ss)) same c.write_parts.ensures.marks;
      legs_count = refl;
      parts_count = count;
      far_is = c.round_length.ensures ∙ sym (round_far t (depot_of s) (depot_extra s) ls c.requires.round c.requires.driven);
    })
