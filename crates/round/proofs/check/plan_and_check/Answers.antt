-- The steps of the proof of `plan_and_check` that are not found by search.
use Rattle.std.proofs.Common.{◌+◌, ◌*◌, ap, arith}
use Rattle.road.specs.Numbers.{town_in}
use Rattle.road.specs.Refusals.{plan_refusal}
use Rattle.road.proofs.Listed.{let_through}
use Rattle.round.proofs.Planning.{done}
use Rattle.round.proofs.Checking.{fronts_word, ok_shortest, not_refused}
use Rattle.round.proofs.check.plan_and_check.Goals as goal

pub check_fronts-requires : goal.check_fronts-requires
check_fronts-requires c =
    let n = c.args.crossings in
    let xs = c.args.streets.now in
    let p = c.in_ok-plan.plan in
    let d = done (plan_refusal n xs c.args.depot) (town_in n xs) c.args.depot c.args.legs.now c.args.parts.now c.plan_round.new.legs c.plan_round.new.parts p c.in_ok-plan.ensures in
    let l = ((let_through n xs c.args.depot).0 d.none).0 in
    record {
      few = (l.0.1, omega (arith, d.writes.parts_count, d.agreed.parts));
      long = (omega (arith, d.writes.legs_count, d.legs_fit, c.plan_round.auto.legs), omega (arith, ap (λ m. m * (1 + n)) d.writes.parts_count, d.parts_fit, c.plan_round.auto.parts));
    }

pub returns-in_err-word : goal.returns-in_err-word
returns-in_err-word c =
    let n = c.args.crossings in
    let xs = c.args.streets.now in
    let p = c.in_ok-plan.plan in
    let d = done (plan_refusal n xs c.args.depot) (town_in n xs) c.args.depot c.args.legs.now c.args.parts.now c.plan_round.new.legs c.plan_round.new.parts p c.in_ok-plan.ensures in
    let says = fronts_word n xs c.args.depot c.args.legs.now c.args.parts.now c.plan_round.new.legs c.plan_round.new.parts p d c.check_fronts.result c.check_fronts.ensures in
    absurd (not_refused c.check_fronts.result _ p.length says c.in_err-word.was)

pub returns : goal.returns
returns c =
    let n = c.args.crossings in
    let xs = c.args.streets.now in
    let p = c.in_ok-plan.plan in
    let a = c.in_ok-plan.ensures in
    let d = done (plan_refusal n xs c.args.depot) (town_in n xs) c.args.depot c.args.legs.now c.args.parts.now c.plan_round.new.legs c.plan_round.new.parts p a in
    let says = fronts_word n xs c.args.depot c.args.legs.now c.args.parts.now c.plan_round.new.legs c.plan_round.new.parts p d c.check_fronts.result c.check_fronts.ensures in
    (a, ok_shortest c.check_fronts.result c.in_ok-word.word p.length says c.in_ok-word.was)
