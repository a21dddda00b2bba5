-- One more part is in the numbers, and is no longer left; or it names another crossing; at the end none is left.
use Rattle.std.proofs.Common.{◌≡◌, ◌++◌, true, false, nat_lt, min, sym, ap₂, ◌∙◌, rules, tests}
use Rattle.std.specs.List.{list_all}
use Rattle.std.proofs.lemmas.Iterator.{YieldsList-from_slice}
use Rattle.std.proofs.lemmas.Iterator.Search.{all_from_yields_List}
use Rattle.text.specs.Format.{marks_of}
use Rattle.text.proofs.Parts.{next_part, other_part, all_parts, value_of}
use Rattle.text.proofs.lines.parts_as_numbers.Goals as goal

pub loop-part-preserved : goal.loop-part-preserved
loop-part-preserved c =
    let n = c.args.crossings in
    let p = c.part-item.result in
    let within : list_all (λ v. nat_lt v n) p.crossings.items ≡ true = sym (all_from_yields_List (λ v. nat_lt v n) _ _ c.all.result c.all.ensures.ran (YieldsList-from_slice p.crossings.items cc) (λ x b q k. search (rules, tests))) ∙ c.if-not-all.false in
    let same : marks_of (min n 100) p.crossings.items ≡ marks_of c.min.result c.as_slice.result.now = ap₂ marks_of (sym c.min.ensures) (sym c.as_slice.ensures.value) in
    let m : c.in_ok-marks.marks.items ≡ marks_of (min n 100) p.crossings.items = sym (same ∙ value_of c.in_ok-marks.ensures) in
    next_part n c.loop-part.numbers.items c.extend_from_slice.new.self.items c.args.parts.now c.loop-part.part-index p _ c.loop-part.invariant (search rules) c.part-item.is within
    (c.in_ok-extend_from_slice.ensures.items ∙ ap₂ ◌++◌ c.in_ok-push.ensures.items (c.as_slice-in-loop-part.ensures.value ∙ m))

pub returns-then-not-all : goal.returns-then-not-all
returns-then-not-all c =
    let n = c.args.crossings in
    let p = c.part-item.result in
    let outer : list_all (λ v. nat_lt v n) p.crossings.items ≡ false = sym (all_from_yields_List (λ v. nat_lt v n) _ _ c.all.result c.all.ensures.ran (YieldsList-from_slice p.crossings.items cc) (λ x b q k. search (rules, tests))) ∙ c.if-not-all.true in
    other_part n c.loop-part.numbers.items c.args.parts.now c.loop-part.part-index p _ c.loop-part.invariant (search rules) c.part-item.is outer

pub returns : goal.returns
returns c = all_parts c.args.crossings c.loop-part.numbers.items c.args.parts.now c.loop-part.part-index _ c.loop-part.invariant c.loop-part-test.false
