-- The steps of the proof of `shift_along` that are not found by search.
use Rattle.std.proofs.Common.{◌≡◌, get_or, take, pos, w64, to_z, of_z, sym, ap, ◌∙◌, arith, rules}
use Rattle.std.proofs.lemmas.Int.{to_z-of_z}
use Rattle.std.proofs.lemmas.List.{take_all}
use Rattle.road.specs.Roads.{pick}
use Rattle.road.specs.Counts.{Set}
use Rattle.join.specs.Amounts.{amount, number, moved, shifted}
use Rattle.join.specs.Borders.{street_at}
use Rattle.join.specs.Odd.{streets_of}
use Rattle.join.proofs.Borders.{taken_more, taken_new}
use Rattle.join.proofs.Pairing.{streets_none}
use Rattle.join.proofs.Shifting.{shift_more}
use Rattle.join.proofs.shift.shift_along.Goals as goal

pub loop-leg-init : goal.loop-leg-init
loop-leg-init c = (search rules, c.requires.whole, sym (ap (λ (S : Set). shifted S (to_z w64 (of_z w64 c.args.by)) (number c.args.amounts.now)) streets_none))

pub shifted_if-requires : goal.shifted_if-requires
shifted_if-requires c =
    let ls = c.args.legs.now in
    let n = c.loop-leg.leg-index in
    let k = street_at ls n in
    let i = c.loop-leg.invariant in
    let x = get_or c.loop-leg.amounts k (pos 0) in
    let q : to_z w64 (of_z w64 x) ≡ x = to_z-of_z w64 x (search rules) in
    let b = to_z-of_z w64 c.args.by c.ranges.by in
    let old = number c.args.amounts.now in
    let same : number c.loop-leg.amounts k ≡ old k =
    ap (λ f. f k) i.2 ∙ ap (λ y. pick y (moved (old k) (to_z w64 (of_z w64 c.args.by))) (old k)) (taken_new ls n c.loop-leg-test.true c.requires.apart) in
    record {
      whole = rw q (i.1 k);
      fits = λ _. rw (q, b, same) (c.requires.fits k (c.requires.listed n c.loop-leg-test.true).1);
    }

pub loop-leg-preserved : goal.loop-leg-preserved
loop-leg-preserved c =
    let ls = c.args.legs.now in
    let n = c.loop-leg.leg-index in
    let k = street_at ls n in
    let i = c.loop-leg.invariant in
    let by = to_z w64 (of_z w64 c.args.by) in
    let old = number c.args.amounts.now in
    let s = shift_more c.loop-leg.amounts (streets_of (take n ls)) k by old _ (omega (arith, i.0, (c.requires.listed n c.loop-leg-test.true).0)) i.1 i.2
    (taken_new ls n c.loop-leg-test.true c.requires.apart) (to_z-of_z w64 c.shifted_if.result (search rules) ∙ c.shifted_if.ensures ∙ ap (λ x. pos (moved (amount x) by)) (to_z-of_z w64 (get_or c.loop-leg.amounts k (pos 0)) (search rules))) in
    (search rules, s.0, s.1 ∙ ap (λ (S : Set). shifted S by old) (sym (taken_more ls n c.loop-leg-test.true)))

pub returns : goal.returns
returns c =
    let ls = c.args.legs.now in
    let old = number c.args.amounts.now in
    let b = to_z-of_z w64 c.args.by c.ranges.by in record {
      long = c.loop-leg.invariant.0;
      whole = c.loop-leg.invariant.1;
      is = c.loop-leg.invariant.2 ∙ ap (λ z. shifted (streets_of (take c.loop-leg.leg-index ls)) z old) b ∙ ap (λ xs. shifted (streets_of xs) c.args.by old) (take_all c.loop-leg.leg-index ls c.loop-leg-test.false);
    }
