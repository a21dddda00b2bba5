-- What follows of the planner's answers. Each statement is a type that src/laws.rt asks a proof of. Assumes nothing.
use Rattle.std.specs.Prelude.{◌≡◌, ℕ, ◌+◌, ◌*◌, ◌≤◌, List, length, Ok, Err}
use Rattle.road.specs.declared.refusal.Refusal.{Refusal}
use Rattle.road.specs.declared.leg.Leg.{Leg}
use Rattle.road.specs.Roads.{Town, Round, far}
use Rattle.road.specs.Counts.{size}
use Rattle.road.specs.Numbers.{town_in}
use Rattle.road.specs.Refusals.{plan_refusal}
use Rattle.round.specs.declared.plan.Plan.{Plan}
use Rattle.round.specs.declared.no_plan.NoPlan.TheVariants.{Refused}
use Rattle.round.specs.Plans.{Plans, Answers}

-- with room for two legs a street and 400 parts nothing is refused for want of room
abbrev pub RoomSuffices : Type 0
RoomSuffices =
    (t : Town) (depot : ℕ) (legs parts legs' parts' : List ℕ) (e : Refusal) → Plans t depot legs parts legs' parts' (Err (Refused e)) →
    2 * size t ≤ length legs → 400 * (1 + t.crossings) ≤ length parts → ⊥

-- no round is shorter than an answer says
abbrev pub NoShorterRound : Type 0
NoShorterRound =
    (n : ℕ) (xs : List ℕ) (depot : ℕ) (legs parts legs' parts' : List ℕ) (p : Plan) → Answers (plan_refusal n xs depot) (town_in n xs) depot legs parts legs' parts' (Ok p) →
    (ms : List Leg) → Round (town_in n xs) depot ms → p.length ≤ far (town_in n xs) ms

-- two answers for one town, from two depots, have one length
abbrev pub OneLength : Type 0
OneLength =
    (n : ℕ) (xs : List ℕ) (depot other : ℕ) (legs parts legs' parts' : List ℕ) (p : Plan) (legs₂ parts₂ legs₂' parts₂' : List ℕ) (q : Plan) →
    Answers (plan_refusal n xs depot) (town_in n xs) depot legs parts legs' parts' (Ok p) →
    Answers (plan_refusal n xs other) (town_in n xs) other legs₂ parts₂ legs₂' parts₂' (Ok q) → p.length ≡ q.length
