-- The sheet of certified classes. Assumes nothing.
use Rattle.std.proofs.Common.{◌≡◌, ℕ, zero, suc, ◌+◌, ◌%◌, ◌<◌, ◌≤◌, Bool, true, false, not, List, [], ◌∷◌, length, get_or, take, vec_items, sym, refl, ap, ◌∙◌, arith}
use Rattle.std.proofs.lemmas.List.{get_or-take}
use Rattle.road.specs.Roads.{pick, Town, street}
use Rattle.road.specs.Counts.{when, size, sum, cut, all}
use Rattle.road.specs.Model.{marked}
use Rattle.road.proofs.Reached.{reached_start, reached_way, drive_reached}
use Rattle.road.proofs.Sums.{sum_front}
use Rattle.sheet.specs.Sheet.{Part, no_part, load, weights, leads_out, ways_out}
use Rattle.join.specs.declared.least.LeastDrives.{LeastDrives}
use Rattle.join.specs.declared.turn.Stage.{Stage}
use Rattle.join.specs.Amounts.{amount}
use Rattle.join.specs.Joins.{out}
use Rattle.join.specs.Extra.{Inside}
use Rattle.join.specs.Certified.{no_stage, class_at, street_charge, crossing_charge, sheet_of, double, Certified}
use Rattle.join.specs.Laws.{SheetAgrees, town_of, depot_of, extra_of, LeastDrivesShow, prices_of}
use Rattle.join.proofs.Certificates.{price_least}
use Rattle.join.proofs.Cost.{cost_double}
use Rattle.join.proofs.Marks.{marks_odd, marks_load}
use Rattle.join.proofs.Pairing.{inside_model}

-- the part of a stage
abbrev part_of : ℕ → Stage → Part
part_of n s = record { marks = take n s.marks; weight = amount s.charge }

-- what is so of each class without the depot is so of each part
parts_are : (P : Part → Type 0) (n r : ℕ) (ss : List Stage) →
    ((i : ℕ) → i < length ss → class_at ss i r ≡ false → P (part_of n (get_or ss i no_stage))) →
    (j : ℕ) → j < length (sheet_of n r ss) → P (get_or (sheet_of n r ss) j no_part)
parts_are P n r [] h j l = absurd (omega arith)
parts_are P n r (s ∷ ss) h j l = at (marked s.marks r) (λ e. h 0 (omega arith) e) (λ j l. parts_are P n r ss (λ i l e. h (suc i) (omega arith) e) j l) j l
  where
    at : (b : Bool) → (b ≡ false → P (part_of n s)) → ((j : ℕ) → j < length (sheet_of n r ss) → P (get_or (sheet_of n r ss) j no_part)) →
        (j : ℕ) → j < length (pick b (sheet_of n r ss) (part_of n s ∷ sheet_of n r ss)) → P (get_or (pick b (sheet_of n r ss) (part_of n s ∷ sheet_of n r ss)) j no_part)
    at true here rest j l = rest j l
    at false here rest zero l = here refl
    at false here rest (suc j) l = rest j (omega arith)

-- they are no more than the stages
pub parts_few : (n r : ℕ) (ss : List Stage) → length (sheet_of n r ss) ≤ length ss
parts_few n r [] = omega arith
parts_few n r (s ∷ ss) = let few = parts_few n r ss in grind arith

-- and weigh what the depot is charged
pub parts_weigh : (n r : ℕ) (ss : List Stage) → weights (sheet_of n r ss) ≡ crossing_charge ss (length ss) r
unfolding weights sum
parts_weigh n r [] = refl
parts_weigh n r (s ∷ ss) =
    at (marked s.marks r) (parts_weigh n r ss) ∙ sym (sum_front (length ss) (λ i. when (not (class_at (s ∷ ss) i r)) (amount (get_or (s ∷ ss) i no_stage).charge)))
  where
    at : (b : Bool) → weights (sheet_of n r ss) ≡ crossing_charge ss (length ss) r →
        weights (pick b (sheet_of n r ss) (part_of n s ∷ sheet_of n r ss)) ≡ when (not b) (amount s.charge) + crossing_charge ss (length ss) r
    at true h = omega arith
    at false h = omega arith

module _ (t : Town) (inside : Inside t) (r : ℕ) where
  -- at the crossings of the town the part has the marks of the class
  kept : (s : Stage) (v : ℕ) → v < t.crossings → marked (take t.crossings s.marks) v ≡ marked s.marks v
  kept s v h = get_or-take t.crossings s.marks v false h

  -- a street bears no more than what it is charged
  pub parts_load : (ss : List Stage) (k : ℕ) → k < size t → load (sheet_of t.crossings r ss) (street t k) ≤ street_charge t ss (length ss) k
  unfolding load sum
  parts_load [] k h = omega arith
  parts_load (s ∷ ss) k h =
      let front = sum_front (length ss) (λ i. when (cut t (class_at (s ∷ ss) i) k) (amount (get_or (s ∷ ss) i no_stage).charge)) in
      let here = marks_load t inside (marked s.marks) (take t.crossings s.marks) (kept s) (amount s.charge) k h in
      let sum_is_lem = at (marked s.marks r) (parts_load ss k h) in
      omega arith
    where
      at : (b : Bool) → load (sheet_of t.crossings r ss) (street t k) ≤ street_charge t ss (length ss) k →
          load (pick b (sheet_of t.crossings r ss) (part_of t.crossings s ∷ sheet_of t.crossings r ss)) (street t k)
          ≤ when (leads_out (take t.crossings s.marks) (street t k)) (amount s.charge) + street_charge t ss (length ss) k
      at true h = omega arith
      at false h = omega arith

  -- each part has an odd border
  pub parts_odd : (ss : List Stage) → ((i : ℕ) → i < length ss → out t all (class_at ss i) ≡ not (class_at ss i r)) →
      (j : ℕ) → j < length (sheet_of t.crossings r ss) → ways_out (get_or (sheet_of t.crossings r ss) j no_part).marks t.streets % 2 ≡ 1
  parts_odd ss odd = parts_are (λ p. ways_out p.marks t.streets % 2 ≡ 1) t.crossings r ss
      (λ i h e. marks_odd t inside (class_at ss i) (take t.crossings (get_or ss i no_stage).marks) (kept (get_or ss i no_stage)) (odd i h ∙ ap not e))

pub sheet_agrees : SheetAgrees
sheet_agrees t r In f K ss inside shown home =
    let n = t.crossings in (
      record { odd = parts_odd t inside r ss shown.odd; bears = λ k h. omega (arith, parts_load t inside r ss k h, shown.bears k h) },
      parts_weigh n r ss ∙ shown.sums r home ∙ sym (shown.costs r home) ∙ cost_double t (K r),
      parts_few n r ss,
      parts_are (λ p. 1 ≤ p.weight) n r ss (λ i h _. shown.some i h),
    )

-- the ghost fields together
shown : (s : LeastDrives) → Certified (town_of s) all (double (town_of s)) (depot_of s) (marked s.reached) (prices_of s) (extra_of s) (vec_items s.stages)
shown s = record { joins = s.joins; costs = s.costs; odd = s.odd; bears = s.bears; sums = s.sums; some = s.some; few = s.few }

pub least_drives : LeastDrivesShow
least_drives s =
    let t = town_of s in
    let r = depot_of s in
    let home = s.found r ∙ reached_start t r in
    let a = sheet_agrees t r (marked s.reached) (prices_of s) (extra_of s) (vec_items s.stages) (inside_model s.town.now.town) (shown s) home in
    record {
      come = λ u. (λ e. reached_way t r u (sym (s.found u) ∙ e), λ d. s.found u ∙ drive_reached t r u d.0 d.1);
      certified = shown s;
      least = price_least t all (double t) r (marked s.reached) (prices_of s) (extra_of s) (vec_items s.stages) (shown s);
      sheet = a.0;
      agrees = a.1;
      few = omega (arith, a.2, s.few);
      some = a.3;
      small = parts_are (λ p. p.weight ≤ 10000000) t.crossings r (vec_items s.stages) (λ i h _. s.small i h);
    }
