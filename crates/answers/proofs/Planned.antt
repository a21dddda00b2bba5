-- What is written of a town is the planner's round and sheet. Assumes nothing.
use Rattle.std.proofs.Common.{◌≡◌, ℕ, ◌+◌, ◌-◌, ◌*◌, ◌≤◌, Bool, true, false, cond, eqb, ◌++◌, List, [], ◌∷◌, map, length, get_or, take, Some, None, Ok, Err, Option, string_bytes, sym, refl, ap, subst, ◌∙◌, ap₂, arith}
use Rattle.std.specs.Option.{IsSomeAnd}
use Rattle.std.proofs.lemmas.List.{get_or_default}
use Rattle.road.specs.declared.leg.Leg.{Leg}
use Rattle.road.specs.Roads.{Town, Round, far, all_streets}
use Rattle.road.specs.Counts.{size}
use Rattle.road.specs.Numbers.{town_in, legs_in, leg_number}
use Rattle.road.specs.Refusals.{plan_refusal}
use Rattle.sheet.specs.Sheet.{Part, Sheet}
use Rattle.sheet.specs.Laws.{Agree}
use Rattle.sheet.specs.Numbers.{sheet_in, sheet_numbers}
use Rattle.text.specs.declared.plan_lines.PlanNumbers.{PlanNumbers}
use Rattle.text.specs.Format.{TownNumbers, told_town, told_round}
use Rattle.text.specs.Texts.{town_of, no_plan}
use Rattle.text.specs.Plans.{planned_text}
use Rattle.text.specs.Laws.{ended, ShortPlan, plan_of}
use Rattle.text.proofs.TownBack.{plan_read_back}
use Rattle.round.specs.declared.plan.Plan.{Plan}
use Rattle.round.specs.declared.no_plan.NoPlan.{NoPlan}
use Rattle.round.specs.declared.no_plan.NoPlan.TheVariants.{Refused, Memory}
use Rattle.round.specs.Plans.{Answers}
use Rattle.round.proofs.Answering.{room_suffices}
use Rattle.round.proofs.Planning.{Done}
use Rattle.round.proofs.Checking.{fronts}
use Rattle.road.proofs.Numbers.{legs_back}
use Rattle.sheet.proofs.Numbers.{sheet_back}
use Rattle.files.specs.declared.answer.Lengths.{Lengths}
use Rattle.files.specs.declared.answer.Reply.{Reply}
use Rattle.answers.specs.Answers.{line_end, Plans, TellsShortest}
use Rattle.answers.proofs.Short.{short_plan}
use Rattle.answers.specs.Planned.{Planned, TurnedAway}

-- the text of the fronts of the rooms
pub printed : (n : ℕ) (xs : List ℕ) (depot : ℕ) (legs parts legs' parts' : List ℕ) (p : Plan) (q : PlanNumbers) (a : Reply) → Done (plan_refusal n xs depot) (town_in n xs) depot legs parts legs' parts' p →
    q.crossings ≡ n → q.legs.now ≡ take p.legs legs' → q.parts.now ≡ take (p.parts * (1 + n)) parts' → q.long ≡ p.length → q.all ≡ all_streets (town_in n xs).streets →
    string_bytes a.text ≡ planned_text (legs_in q.legs.now) q.long q.all (sheet_in q.crossings q.parts.now) → a.lengths ≡ Some (record { round = q.long; streets = q.all }) →
    n ≤ 100 → size (town_in n xs) ≤ 300 → all_streets (town_in n xs).streets ≤ 30000000 → Planned (plan_refusal n xs depot) (town_in n xs) depot a
printed n xs depot legs parts legs' parts' p q a d n-is legs-is parts-is long-is all-is e lengths-are few small most =
    let t = town_in n xs in
    let f = fronts n xs depot legs parts legs' parts' p d in
    let ls : legs_in q.legs.now ≡ d.ls = ap legs_in (legs-is ∙ f.0) ∙ legs_back d.ls in
    let ps : sheet_in q.crossings q.parts.now ≡ d.ps = ap₂ sheet_in n-is (parts-is ∙ f.1) ∙ sheet_back n d.ps d.writes.marks in
    record {
      none = d.none;
      legs = d.ls;
      parts = d.ps;
      agreed = d.agreed;
      marked = d.writes.marks;
      written = e ∙ ap₂ (λ a b. planned_text a q.long q.all b) ls ps ∙ ap₂ (λ a b. planned_text d.ls a b d.ps) (long-is ∙ d.writes.far_is) all-is;
      few = few;
      small = small;
      most = most;
      lengths = lengths-are ∙ ap₂ (λ a b. let l : Lengths = record { round = a; streets = b } in Some l) (long-is ∙ d.writes.far_is) all-is;
    }

-- a text that wants no newline is ended
ended_is : (text : List ℕ) → eqb (get_or text (length text - 1) 0) 10 ≡ true → ended text ≡ true
ended_is [] e = refl
ended_is (x ∷ xs) e = ap (λ c. eqb c 10) (get_or_default (x ∷ xs) (length (x ∷ xs) - 1) 10 0 (omega arith)) ∙ e

-- behind the town's text it is read back
read_behind : (text : List ℕ) (x : TownNumbers) (ls : List Leg) (long all : ℕ) (ps : List Part) → told_town text ≡ Ok x → ShortPlan x.crossings ls long all ps →
    told_round (text ++ (line_end text ++ planned_text ls long all ps)) ≡ Ok (plan_of x ls ps)
read_behind text x ls long all ps told short = at (eqb (get_or text (length text - 1) 0) 10) refl
  where
    back : (told_round (text ++ 10 ∷ planned_text ls long all ps) ≡ Ok (plan_of x ls ps)) × (ended text ≡ true → told_round (text ++ planned_text ls long all ps) ≡ Ok (plan_of x ls ps))
    back = plan_read_back text x ls long all ps told short

    at : (b : Bool) → eqb (get_or text (length text - 1) 0) 10 ≡ b → told_round (text ++ (cond b [] (10 ∷ []) ++ planned_text ls long all ps)) ≡ Ok (plan_of x ls ps)
    at true e = back.1 (ended_is text e)
    at false e = back.0

pub behind_town : (text : List ℕ) (x : TownNumbers) (a b : Reply) → told_town text ≡ Ok x → Planned (no_plan x) (town_of x) x.depot a → string_bytes b.text ≡ line_end text ++ string_bytes a.text →
    b.lengths ≡ a.lengths → Plans text b
behind_town text x a b told p e same = record {
  town = x;
  legs = p.legs;
  parts = p.parts;
  told = told;
  taken = p.none;
  agreed = p.agreed;
  marked = p.marked;
  written = e ∙ ap (λ zs. line_end text ++ zs) p.written;
  lengths = same ∙ p.lengths;
  read_back =
      ap (λ zs. told_round (text ++ zs)) (e ∙ ap (λ zs. line_end text ++ zs) p.written)
      ∙ read_behind text x p.legs (far (town_of x) p.legs) (all_streets (town_of x).streets) p.parts told (short_plan (town_of x) x.depot p.legs p.parts p.agreed p.marked p.few p.small p.most);
}

-- and tells a shortest round
pub plan_tells : (text : List ℕ) (a : Reply) → Plans text a → IsSomeAnd a.lengths (λ l. TellsShortest (text ++ string_bytes a.text) l.round)
plan_tells text a p = subst (λ (o : Option Lengths). IsSomeAnd o (λ l. TellsShortest (text ++ string_bytes a.text) l.round)) (sym p.lengths) (record {
  numbers = plan_of p.town p.legs p.parts;
  told = p.read_back;
  round = subst (λ ls. Round t p.town.depot ls) (sym ls) p.agreed.shortest.round;
  sheet = subst (λ ps. Sheet t ps) (sym ps) p.agreed.sheet;
  agree = subst (λ ls. Agree t ls (sheet_in p.town.crossings (sheet_numbers p.parts))) (sym ls) (subst (λ ps. Agree t p.legs ps) (sym ps) p.agreed.agree);
  length_is = ap (far t) (sym ls);
})
  where
    t : Town
    t = town_of p.town

    ls : legs_in (map leg_number p.legs) ≡ p.legs
    ls = legs_back p.legs

    ps : sheet_in p.town.crossings (sheet_numbers p.parts) ≡ p.parts
    ps = sheet_back p.town.crossings p.parts p.marked

-- in rooms that suffice only what is due is refused
pub turned_away : (due : Option (ℕ × ℕ)) (t : Town) (depot : ℕ) (legs parts legs' parts' : List ℕ) (e : NoPlan) → Answers due t depot legs parts legs' parts' (Err e) →
    2 * size t ≤ length legs → 400 * (1 + t.crossings) ≤ length parts → TurnedAway due e
turned_away due t depot legs parts legs' parts' (Memory e) a hl hp = tt
turned_away (Some due) t depot legs parts legs' parts' (Refused r) a hl hp = ap Some (sym a.1)
turned_away None t depot legs parts legs' parts' (Refused r) a hl hp = absurd (room_suffices t depot legs parts legs' parts' r a hl hp)
