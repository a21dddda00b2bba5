-- What is printed is the text of a shortest round and of a sheet that agrees with it; only what is due is refused.
use Rattle.std.proofs.Common.{◌≡◌, ◌+◌, ◌*◌, ◌≤◌, Err, Some, ap₂, length, subst, rules}
use Rattle.std.proofs.lemmas.Result.{err_from_is_err_and}
use Rattle.road.specs.Counts.{size}
use Rattle.road.specs.Roads.{all_streets}
use Rattle.road.specs.Numbers.{town_in}
use Rattle.road.specs.Refusals.{plan_refusal}
use Rattle.text.specs.Format.{town_numbers}
use Rattle.text.specs.Texts.{town_of, no_plan}
use Rattle.round.specs.Plans.{Answers}
use Rattle.round.proofs.Planning.{done}
use Rattle.files.specs.declared.answer.Lengths.{Lengths}
use Rattle.files.specs.declared.answer.Reply.{Reply}
use Rattle.answers.specs.Planned.{Planned}
use Rattle.answers.proofs.Planned.{printed, turned_away}
use Rattle.answers.proofs.plan.plan_town.Goals as goal

pub returns-in_err-checked : goal.returns-in_err-checked
returns-in_err-checked c =
    let x = town_numbers c.args.given.now in
    let ls = c.as_mut_slice-legs.result.now in
    let ps = c.as_mut_slice-parts.result.now in
    let p = err_from_is_err_and c.from_residual-in_err-checked.result c.from_residual-in_err-checked.ensures.1 in
    let e = c.in_err-checked.field-0.0 in
    let a =
    subst (λ ys. Answers (plan_refusal x.crossings ys x.depot) (town_in x.crossings ys) x.depot ls ps c.plan_and_check.new.legs c.plan_and_check.new.parts (Err e))
    c.as_slice.ensures.value c.in_err-checked.ensures in
    let hl : 2 * size (town_of x) ≤ length ls = search rules in
    let hp : 400 * (1 + x.crossings) ≤ length ps = search rules in
    rw (p.1, p.2) (turned_away (no_plan x) (town_of x) x.depot ls ps c.plan_and_check.new.legs c.plan_and_check.new.parts e a hl hp)

pub returns : goal.returns
returns c =
    let x = town_numbers c.args.given.now in
    let n = x.crossings in
    let xs = c.as_slice.result.now in
    let ls = c.as_mut_slice-legs.result.now in
    let ps = c.as_mut_slice-parts.result.now in
    let p = c.in_ok-checked.checked.plan in
    let q = c.fronts-plan.result in
    let a : Reply = record { text = c.in_ok-plan_text.field-0; lengths = Some (record { round = c.from.result; streets = c.from-2.result }) } in
    let d = done (plan_refusal n xs x.depot) (town_in n xs) x.depot ls ps c.plan_and_check.new.legs c.plan_and_check.new.parts p c.in_ok-checked.ensures.0 in
    let l = c.fronts-plan.ensures.lengths in
    let all : q.all ≡ all_streets (town_in n xs).streets = search rules in
    let few : n ≤ 100 = search rules in
    let small : size (town_in n xs) ≤ 300 = search rules in
    let most : all_streets (town_in n xs).streets ≤ 30000000 = search rules in
    subst (λ ys. Planned (plan_refusal n ys x.depot) (town_in n ys) x.depot a) c.as_slice.ensures.value
    (printed n xs x.depot ls ps c.plan_and_check.new.legs c.plan_and_check.new.parts p q a d
    l.0 c.fronts-plan.ensures.legs c.fronts-plan.ensures.parts l.1 all c.in_ok-plan_text.ensures (ap₂ (λ y z. let l : Lengths = record { round = y; streets = z } in Some l) c.from.ensures c.from-2.ensures) few small most)
