-- The steps of the proof of `plan_round` that are not found by search.
use Rattle.std.proofs.Common.{sym, subst}
use Rattle.road.specs.declared.sound.SoundTown.{SoundTown}
use Rattle.road.specs.Model.{model}
use Rattle.join.specs.Laws.{town_of, depot_of, sheet_from}
use Rattle.pairs.specs.Pairings.{depot_extra}
use Rattle.round.specs.Tours.{Tour}
use Rattle.round.specs.Plans.{Plans}
use Rattle.round.proofs.Planning.{agreed, plans_of}
use Rattle.round.proofs.planner.plan_round.Goals as goal

pub returns : goal.returns
returns c =
    let s = c.in_ok-least.least in
    let ls = c.deref.result.now in
    let tour = subst (Tour (town_of s) (depot_of s) (depot_extra s)) (sym c.deref.ensures.value) c.in_ok-round.ensures in
    let plans = subst (λ (w : SoundTown). Plans (model w.town) w.town.depot c.args.legs.now c.args.parts.now c.write_plan.new.legs c.write_plan.new.parts c.write_plan.result)
    c.in_ok-least.ensures.0
    (plans_of (town_of s) (depot_of s) ls (sheet_from s) c.args.legs.now c.args.parts.now c.write_plan.new.legs c.write_plan.new.parts (agreed s ls tour)
    c.write_plan.result c.write_plan.ensures) in
    let taken = c.in_ok-town.ensures in
    rw (taken.0, ← taken.1.0, ← taken.1.1) plans
