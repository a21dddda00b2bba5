-- The checker's word on what the planner writes. Assumes nothing.
use Rattle.std.proofs.Common.{◌≡◌, ℕ, ◌+◌, ◌*◌, ◌/◌, ◌<◌, ◌≤◌, true, not, ltb, leb, List, map, length, get_or, take, drop, None, sym, refl, ap, ◌∙◌, ap₂, mul-div_cancel, arith, Ok, Err, Result}
use Rattle.std.proofs.lemmas.List.{length-map, get_or-map, take_at}
use Rattle.std.proofs.lemmas.Bool.{le-leb, lt-ltb}
use Rattle.road.specs.declared.leg.Leg.{Leg}
use Rattle.road.specs.Roads.{Town, Drive, far}
use Rattle.road.specs.Counts.{size}
use Rattle.road.specs.First.{first, unless_all}
use Rattle.road.specs.Laws.{no_leg}
use Rattle.road.specs.Numbers.{town_in, legs_in}
use Rattle.road.specs.Refusals.{town_refusal, reach_refusal, plan_refusal, legs_refusal}
use Rattle.road.proofs.First.{first_none, unless_none, then_none}
use Rattle.road.proofs.Parity.{bit_most}
use Rattle.road.proofs.Drives.{drive_below}
use Rattle.sheet.specs.Sheet.{Part, no_part}
use Rattle.sheet.specs.Numbers.{sheet_in}
use Rattle.road.specs.declared.refusal.Refusal.{Refusal}
use Rattle.sheet.specs.declared.word.Word.{Word}
use Rattle.sheet.specs.declared.word.Word.TheVariants.{Shortest}
use Rattle.sheet.specs.Words.{said, judged, unless_refused, check_refusal, parts_refusal}
use Rattle.sheet.proofs.Said.{said_word}
use Rattle.sheet.proofs.Judged.{word_shortest}
use Rattle.sheet.proofs.Taken.{parts_taken}
use Rattle.sheet.proofs.Places.{weight_at}
use Rattle.round.specs.declared.plan.Plan.{Plan}
use Rattle.round.specs.Plans.{Agreed}
use Rattle.road.specs.Numbers.{leg_number}
use Rattle.sheet.specs.Numbers.{sheet_numbers, AllMarked}
use Rattle.round.proofs.Planning.{Done}
use Rattle.road.proofs.Numbers.{legs_back}
use Rattle.sheet.proofs.Numbers.{sheet_back, parts_back, length_sheet}

-- all keep a rule
all_kept : {B : Type 0} (n : ℕ) (p : ℕ → _) (w : ℕ → B) → ((i : ℕ) → i < n → p i ≡ true) → unless_all n p w ≡ None
all_kept n p w h =
    let e = first_none n (λ k. not (p k)) (λ j i. ap not (h j i)) in
    (unless_none (leb n (first n (λ k. not (p k)))) _).1 (le-leb n (first n (λ k. not (p k))) (omega (arith, e)))

-- the legs of a drive are of streets
legs_let : (t : Town) {v w : ℕ} {ls : List Leg} → Drive t v ls w → legs_refusal t (map leg_number ls) ≡ None
legs_let t {ls = ls} d = all_kept (length (map leg_number ls)) (λ i. ltb (get_or (map leg_number ls) i 0) (2 * size t)) (λ i. (7, i)) kept
  where
    kept : (i : ℕ) → i < length (map leg_number ls) → ltb (get_or (map leg_number ls) i 0) (2 * size t) ≡ true
    kept i h =
        let j : i < length ls = omega (arith, length-map ls leg_number) in
        let l = get_or ls i no_leg in
        lt-ltb (get_or (map leg_number ls) i 0) (2 * size t) (omega (arith, get_or-map leg_number ls i no_leg 0 j, drive_below t d i j, bit_most l.back))

-- the parts are within the limits
parts_let : (n : ℕ) (ps : List Part) → AllMarked n ps → length ps ≤ 400 → ((i : ℕ) → i < length ps → (get_or ps i no_part).weight ≤ 10000000) → parts_refusal n (sheet_numbers ps) ≡ None
parts_let n ps marks few small = (parts_taken n xs).1 ((length ps, long), omega (arith, count), light)
  where
    xs : List ℕ
    xs = sheet_numbers ps

    long : length xs ≡ length ps * (1 + n)
    long = length_sheet n ps marks

    count : length xs / (1 + n) ≡ length ps
    count = ap (λ z. z / (1 + n)) long ∙ mul-div_cancel (length ps) (omega arith)

    light : (i : ℕ) → i < length xs / (1 + n) → get_or xs (i * (1 + n)) 0 ≤ 10000000
    light i h =
        let j : i < length ps = omega (arith, count) in
        omega (arith, weight_at (length ps) n xs i (i * (1 + n)) j refl, ap (λ qs. (get_or qs i no_part).weight) (parts_back n ps marks), small i j)

-- so it is the checker's word on the numbers of a round and a sheet that agree
pub checked_word : (n : ℕ) (xs : List ℕ) (depot : ℕ) (ls : List Leg) (ps : List Part) (legs parts : List ℕ) → town_refusal n xs depot ≡ None → Agreed (town_in n xs) depot ls ps →
    AllMarked n ps → legs ≡ map leg_number ls → parts ≡ sheet_numbers ps → (w : Result Word Refusal) →
    said w ≡ unless_refused (check_refusal n xs depot legs parts) (judged (town_in n xs) depot (legs_in legs) (sheet_in n parts)) → w ≡ Ok (Shortest (far (town_in n xs) ls))
checked_word n xs depot ls ps legs parts taken a marks el ep w e = said_word (Shortest (far t ls)) w (e ∙ ap₂ unless_refused none word)
  where
    t : Town
    t = town_in n xs

    none : check_refusal n xs depot legs parts ≡ None
    none =
        (then_none (town_refusal n xs depot) _).1 (
          taken,
          (then_none (legs_refusal t legs) _).1 (
            ap (legs_refusal t) el ∙ legs_let t a.shortest.round.drive,
            ap (parts_refusal n) ep ∙ parts_let n ps marks a.parts a.small,
          ),
        )

    word : judged t depot (legs_in legs) (sheet_in n parts) ≡ Shortest (far t ls)
    word =
        ap₂ (judged t depot) (ap legs_in el ∙ legs_back ls) (ap (sheet_in n) ep ∙ sheet_back n ps marks)
        ∙ (word_shortest t depot ls ps (far t ls)).1 (a.shortest.round, a.sheet, a.agree, refl)

-- the fronts of the rooms
pub fronts : (n : ℕ) (xs : List ℕ) (depot : ℕ) (legs parts legs' parts' : List ℕ) (p : Plan) (d : Done (plan_refusal n xs depot) (town_in n xs) depot legs parts legs' parts' p) →
    (take p.legs legs' ≡ map leg_number d.ls) × (take (p.parts * (1 + n)) parts' ≡ sheet_numbers d.ps)
fronts n xs depot legs parts legs' parts' p d =
    let w = d.writes in
    let ys = map leg_number d.ls in
    let zs = sheet_numbers d.ps in (
      ap (take p.legs) w.round ∙ take_at ys (drop (length ys) legs) p.legs (length-map d.ls leg_number ∙ sym w.legs_count),
      ap (take (p.parts * (1 + n))) w.sheet
          ∙ take_at zs (drop (length zs) parts) (p.parts * (1 + n)) (length_sheet n d.ps w.marks ∙ ap (λ m. m * (1 + n)) (sym w.parts_count)),
    )

-- the word on them
pub fronts_word : (n : ℕ) (xs : List ℕ) (depot : ℕ) (legs parts legs' parts' : List ℕ) (p : Plan) → Done (plan_refusal n xs depot) (town_in n xs) depot legs parts legs' parts' p → (w : Result Word Refusal) →
    said w ≡ unless_refused (check_refusal n xs depot (take p.legs legs') (take (p.parts * (1 + n)) parts'))
    (judged (town_in n xs) depot (legs_in (take p.legs legs')) (sheet_in n (take (p.parts * (1 + n)) parts'))) → w ≡ Ok (Shortest p.length)
fronts_word n xs depot legs parts legs' parts' p d w e =
    let f = fronts n xs depot legs parts legs' parts' p d in
    let taken = ((then_none (town_refusal n xs depot) (reach_refusal (town_in n xs) depot)).0 d.none).0 in
    checked_word n xs depot d.ls d.ps (take p.legs legs') (take (p.parts * (1 + n)) parts') taken d.agreed d.writes.marks f.0 f.1 w e ∙ ap (λ m. Ok (Shortest m)) (sym d.writes.far_is)

-- so the checker turns nothing away, and its word is shortest
pub ok_shortest : (r : Result Word Refusal) (w : Word) (n : ℕ) → r ≡ Ok (Shortest n) → r ≡ Ok w → w ≡ Shortest n
ok_shortest r w n e f = cc

pub not_refused : (r : Result Word Refusal) (q : Refusal) (n : ℕ) → r ≡ Ok (Shortest n) → r ≡ Err q → ⊥
not_refused r q n e f = let z : ◌≡◌ {A = ℕ} 0 1 = cc in omega arith
