-- What follows of the planner's answers. Assumes nothing.
use Rattle.std.proofs.Common.{◌+◌, ◌≤◌, Err, sym, ◌∙◌, subst, mul-le-mul, arith}
use Rattle.road.specs.Numbers.{town_in}
use Rattle.road.specs.Refusals.{plan_refusal}
use Rattle.road.proofs.Listed.{let_through}
use Rattle.round.specs.declared.no_plan.NoPlan.TheVariants.{Refused}
use Rattle.round.specs.Plans.{Fits}
use Rattle.round.specs.Laws.{RoomSuffices, NoShorterRound, OneLength}
use Rattle.round.proofs.Planning.{room_enough, done}
use Rattle.round.proofs.Rounds.{any_depot}

pub room_suffices : RoomSuffices
room_suffices t depot legs parts legs' parts' e (ls, ps, a, f) hl hp =
    let wide : 1 + t.crossings ≤ 1 + t.crossings = omega arith in
    let enough = room_enough t ls ps legs parts (omega (arith, a.legs)) (omega (arith, mul-le-mul a.parts wide)) in
    subst (λ o. Fits o t ls ps legs parts legs' parts' (Err (Refused e))) enough f

pub no_shorter_round : NoShorterRound
no_shorter_round n xs depot legs parts legs' parts' p a ms r =
    let d = done (plan_refusal n xs depot) (town_in n xs) depot legs parts legs' parts' p a in
    omega (arith, d.writes.far_is, d.agreed.shortest.least ms r)

pub one_length : OneLength
one_length n xs depot other legs parts legs' parts' p legs₂ parts₂ legs₂' parts₂' q a b =
    let d = done (plan_refusal n xs depot) (town_in n xs) depot legs parts legs' parts' p a in
    let e = done (plan_refusal n xs other) (town_in n xs) other legs₂ parts₂ legs₂' parts₂' q b in
    d.writes.far_is
    ∙ any_depot (town_in n xs) depot other d.ls e.ls ((let_through n xs depot).0 d.none).1 ((let_through n xs other).0 e.none).1 d.agreed.shortest e.agreed.shortest
    ∙ sym e.writes.far_is
