-- A round over every street and the extra drives, and the sheet of the charged classes. Assumes nothing.
use Rattle.std.proofs.Common.{◌≡◌, ℕ, ◌+◌, ◌*◌, ◌/◌, ◌<◌, ◌≤◌, Bool, true, false, leb, List, [], ◌∷◌, length, Some, None, Ok, Err, Option, Result, sym, refl, ap, ◌∙◌, subst, arith}
use Rattle.std.proofs.lemmas.Bool.{le-leb, leb-true}
use Rattle.road.specs.declared.leg.Leg.{Leg}
use Rattle.road.specs.Roads.{Town, street, Drive, Round, times, far, all_streets}
use Rattle.road.specs.Counts.{when, sum, size, Set}
use Rattle.road.specs.First.{unless}
use Rattle.road.proofs.First.{unless_none, then_none}
use Rattle.road.proofs.Parity.{bit_most}
use Rattle.road.proofs.Sums.{sum_ext, sum_le, sum_scale, sum_ones}
use Rattle.road.proofs.Drives.{along, along_sum, all_streets_sum, far_counts}
use Rattle.sheet.specs.Sheet.{Part, weights}
use Rattle.sheet.specs.Shown.{Accepted}
use Rattle.sheet.proofs.Right.{accepted}
use Rattle.join.specs.declared.least.LeastDrives.{LeastDrives}
use Rattle.join.specs.Extra.{counts, extra_length}
use Rattle.join.specs.Laws.{town_of, depot_of, sheet_from, prices_of}
use Rattle.join.proofs.Cost.{cost_double}
use Rattle.join.proofs.Parts.{least_drives}
use Rattle.pairs.specs.Pairings.{depot_extra}
use Rattle.pairs.proofs.DepotExtra.{at_home}
use Rattle.round.specs.declared.plan.Plan.{Plan}
use Rattle.round.specs.declared.no_plan.NoPlan.{NoPlan}
use Rattle.round.specs.declared.no_plan.NoPlan.TheVariants.{Refused, Memory}
use Rattle.round.specs.Tours.{Tour}
use Rattle.round.specs.Plans.{Agreed, sheet_room, room_refusal, Writes, Fits, Plans, Answers}
use Rattle.round.proofs.Planned.{counts_total}

-- extra drives are no longer than all streets
pub extra_most : (t : Town) (J : Set) → extra_length t J ≤ all_streets t.streets
extra_most t J = omega (arith, sum_le (size t) (λ k. when (J k) (street t k).long) (λ k. (street t k).long) (λ k _. at (J k) (street t k).long), all_streets_sum t)
  where
    at : (b : Bool) (n : ℕ) → when b n ≤ n
    at true n = omega arith
    at false n = omega arith

-- half of the depot's price is the length of the extra drives
pub depot_half : (s : LeastDrives) → prices_of s (depot_of s) / 2 ≡ extra_length (town_of s) (depot_extra s)
depot_half s = omega (arith, s.costs (depot_of s) (at_home s), cost_double (town_of s) (depot_extra s))

-- how long the round is
pub round_far : (t : Town) (depot : ℕ) (J : Set) (ls : List Leg) → Round t depot ls → ((k : ℕ) → k < size t → times k ls ≡ counts J k) → far t ls ≡ all_streets t.streets + extra_length t J
round_far t depot J ls r same = far_counts t (counts J) r.drive same ∙ counts_total t J

-- a round has as many legs as its streets are driven
length_counted : (t : Town) {v w : ℕ} {ls : List Leg} → Drive t v ls w → length ls ≡ sum (size t) (λ k. times k ls)
length_counted t {ls = ls} d = at ls ∙ along_sum t (λ _. 1) d ∙ sum_ext (size t) (λ k. times k ls * 1) (λ k. times k ls) (λ k _. omega arith)
  where
    at : (ls : List Leg) → length ls ≡ along (λ _. 1) ls
    at [] = refl
    at (l ∷ ls) = let e = at ls in omega arith

-- at most two for each
pub legs_most : (t : Town) (J : Set) {v w : ℕ} {ls : List Leg} → Drive t v ls w → ((k : ℕ) → k < size t → times k ls ≡ counts J k) → length ls ≤ 2 * size t
legs_most t J {ls = ls} d same =
    let s = sum_le (size t) (λ k. times k ls) (λ _. 2 * 1) (λ k h. omega (arith, same k h, bit_most (J k))) in
    omega (arith, length_counted t d, sum_scale (size t) 2 (λ _. 1), ap (λ n. 2 * n) (sum_ones (size t)))

-- the round and the sheet agree
pub agreed : (s : LeastDrives) (ls : List Leg) → Tour (town_of s) (depot_of s) (depot_extra s) ls → Agreed (town_of s) (depot_of s) ls (sheet_from s)
unfolding Accepted
agreed s ls r =
    let t = town_of s in
    let d = least_drives s in
    let e : 2 * far t ls ≡ 2 * all_streets t.streets + weights (sheet_from s) = omega (arith, round_far t (depot_of s) (depot_extra s) ls r.round r.driven, d.agrees) in
    record {
      shortest = accepted t (depot_of s) (sheet_from s) ls d.sheet r.round e;
      sheet = d.sheet;
      agree = e;
      legs = legs_most t (depot_extra s) r.round.drive r.driven;
      parts = d.few;
      forth = r.forth;
      small = d.small;
    }

-- there is room, or there is not
module _ (t : Town) (ls : List Leg) (ps : List Part) (legs parts : List ℕ) where
  pub room_enough : length ls ≤ length legs → sheet_room t ps ≤ length parts → room_refusal t ls ps legs parts ≡ None
  room_enough h i = rw (le-leb (length ls) (length legs) h, le-leb (sheet_room t ps) (length parts) i) refl

  abbrev pub legs_room : Option (ℕ × ℕ)
  legs_room = unless (leb (length ls) (length legs)) (6, length ls)

  abbrev pub parts_room : Option (ℕ × ℕ)
  parts_room = unless (leb (sheet_room t ps) (length parts)) (6, sheet_room t ps)

  -- a plan that was written fits, where no refusal for want of room is due
  pub written_fits : (legs' parts' : List ℕ) (p : Plan) → legs_room ≡ None → parts_room ≡ None → Writes t ls ps legs parts legs' parts' p →
      Fits (room_refusal t ls ps legs parts) t ls ps legs parts legs' parts' (Ok p)
  written_fits legs' parts' p h i w = subst (λ o. Fits o t ls ps legs parts legs' parts' (Ok p)) (sym ((then_none legs_room parts_room).1 (h, i))) w

-- a plan, whatever comes of it
pub plans_of : (t : Town) (depot : ℕ) (ls : List Leg) (ps : List Part) (legs parts legs' parts' : List ℕ) → Agreed t depot ls ps → (r : Result Plan NoPlan) →
    Fits (room_refusal t ls ps legs parts) t ls ps legs parts legs' parts' r → Plans t depot legs parts legs' parts' r
plans_of t depot ls ps legs parts legs' parts' a (Ok p) f = (ls, ps, a, f)
plans_of t depot ls ps legs parts legs' parts' a (Err (Refused e)) f = (ls, ps, a, f)
plans_of t depot ls ps legs parts legs' parts' a (Err (Memory e)) f = absurd (none (room_refusal t ls ps legs parts) f)
  where
    none : (o : Option (ℕ × ℕ)) → Fits o t ls ps legs parts legs' parts' (Err (Memory e)) → ⊥
    none None f = f
    none (Some due) f = f.1

-- what an answer with a plan says
pub record Done (due : Option (ℕ × ℕ)) (t : Town) (depot : ℕ) (legs parts legs' parts' : List ℕ) (p : Plan) : Type 0 where
  pub none : due ≡ None
  pub ls : List Leg
  pub ps : List Part
  pub agreed : Agreed t depot ls ps
  pub writes : Writes t ls ps legs parts legs' parts' p
  pub legs_fit : length ls ≤ length legs
  pub parts_fit : sheet_room t ps ≤ length parts

pub done : (due : Option (ℕ × ℕ)) (t : Town) (depot : ℕ) (legs parts legs' parts' : List ℕ) (p : Plan) → Answers due t depot legs parts legs' parts' (Ok p) → Done due t depot legs parts legs' parts' p
done (Some due) t depot legs parts legs' parts' p a = absurd a.1
done None t depot legs parts legs' parts' p (ls, ps, a, f) = at (room_refusal t ls ps legs parts) refl f
  where
    at : (o : Option (ℕ × ℕ)) → room_refusal t ls ps legs parts ≡ o → Fits o t ls ps legs parts legs' parts' (Ok p) → Done None t depot legs parts legs' parts' p
    at (Some due) e f = absurd f.1
    at None e w =
        let r = (then_none (unless (leb (length ls) (length legs)) (6, length ls)) (unless (leb (sheet_room t ps) (length parts)) (6, sheet_room t ps))).0 e in
        record {
          none = refl;
          ls = ls;
          ps = ps;
          agreed = a;
          writes = w;
          legs_fit = leb-true (length ls) (length legs) ((unless_none (leb (length ls) (length legs)) (6, length ls)).0 r.0);
          parts_fit = leb-true (sheet_room t ps) (length parts) ((unless_none (leb (sheet_room t ps) (length parts)) (6, sheet_room t ps)).0 r.1);
        }
