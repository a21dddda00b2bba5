-- A plan that is written behind the text of a town is read back with it. Assumes nothing.
use Rattle.std.proofs.Common.{◌≡◌, ℕ, suc, ◌+◌, ◌-◌, ◌^◌, ◌<◌, ◌≤◌, false, true, min, List, [], ◌∷◌, ◌++◌, map, length, get_or, take, decimal, codes, Option, None, Ok, Err, Result, is_none, sym, refl, ap, ap₂, ◌∙◌, append_assoc, append-nil, arith}
use Rattle.std.proofs.Math.Nat.{min-eq_left}
use Rattle.std.specs.List.{All, AllByRecursion, filter_map, flat_map}
use Rattle.std.proofs.lemmas.List.Elements.{filter_map-append, recursion_from_All, All-from_get_or}
use Rattle.std.proofs.lemmas.List.Concat.{flat_map-append}
use Rattle.std.proofs.lemmas.List.{take_all, take_more}
use Rattle.std.proofs.lemmas.Bool.{eqb-true}
use Rattle.road.specs.declared.leg.Leg.{Leg}
use Rattle.road.specs.First.{unless, ◌then◌}
use Rattle.road.specs.Numbers.{leg_number}
use Rattle.sheet.specs.Sheet.{Part, no_part}
use Rattle.sheet.specs.Numbers.{sheet_numbers}
use Rattle.text.specs.declared.text_error.TextError.{TextError}
use Rattle.text.specs.declared.text_error.TextError.TheVariants.{Line, NoCrossings, NoDepot, NoRound}
use Rattle.text.specs.declared.line_fault.LineFault.TheVariants.{SecondRound, PartCrossing}
use Rattle.text.specs.Words.{lines_of}
use Rattle.text.specs.Entries.{PartEntry, Entry, Nothing, RoundIs, LengthIs, PartIs}
use Rattle.text.specs.Format.{head, crossings_in, depot_in, street_in, round_in, part_in, entries, TownNumbers, RoundNumbers, part_numbers, part_fault, need, and_then, unless_wrong, town_from, round_from, told_town, told_round}
use Rattle.text.specs.Plans.{round_line, length_line, part_line, planned_text}
use Rattle.text.specs.Laws.{Short, ShortPlan, plan_of, ended}
use Rattle.text.proofs.Spelled.{Word, line_text, lines_first, lines_apart}
use Rattle.text.proofs.Digits.{leg_word, decimal_word, leg_is_word}
use Rattle.text.proofs.Marked.{marked, marked_below, marked_in, marks_read}
use Rattle.text.proofs.WrittenLines.{length_words, part_words, round_spelled, length_spelled, part_spelled, round_said, length_said, part_said}
use Rattle.text.proofs.Behind.{entries_append, next_line}
use Rattle.text.proofs.Standing.{OfTown, alone_same}

-- a part of a town of n crossings
record ShortPart (n : ℕ) (p : Part) : Type 0 where
  marks : length p.marks ≡ n
  weight : Short p.weight

short_parts : (n : ℕ) (ps : List Part) → All (λ (p : Part). length p.marks ≡ n) ps → All (λ (p : Part). Short p.weight) ps → AllByRecursion (ShortPart n) ps
short_parts n ps a b = recursion_from_All (ShortPart n) ps (λ k d h. record { marks = a k d h; weight = b k d h })

short_marked : (n : ℕ) (p : Part) → n ≤ 100 → ShortPart n p → AllByRecursion (λ v. v < 10 ^ 19) (marked 0 p.marks)
short_marked n p h g = marked_below (10 ^ 19) 0 p.marks (omega (arith, g.marks))

-- the lines of a plan
decimal_words : (vs : List ℕ) → AllByRecursion (λ v. v < 10 ^ 19) vs → AllByRecursion Word (map decimal vs)
decimal_words [] h = tt
decimal_words (v ∷ vs) h = (decimal_word v h.0, decimal_words vs h.1)

leg_words : (ls : List Leg) → AllByRecursion (λ (l : Leg). l.by < 2 ^ 62) ls → AllByRecursion Word (map leg_word ls)
leg_words [] h = tt
leg_words (l ∷ ls) h = (leg_is_word l h.0, leg_words ls h.1)

abbrev round_words : List Leg → List (List ℕ)
round_words ls = codes "round" ∷ map leg_word ls

abbrev words_of_length : ℕ → ℕ → List (List ℕ)
words_of_length long all = codes "length" ∷ length_words long all

abbrev words_of_part : Part → List (List ℕ)
words_of_part p = codes "part" ∷ part_words p

lines_parts : (n : ℕ) (ps : List Part) → n ≤ 100 → AllByRecursion (ShortPart n) ps → lines_of (flat_map part_line ps) ≡ map words_of_part ps ++ [] ∷ []
lines_parts n [] h g = refl
lines_parts n (p ∷ ps) h g =
    let head_word : Word (codes "part") = record { full = omega arith; in_word_all = refl } in
    let at_word : Word (codes "at") = record { full = omega arith; in_word_all = refl } in
    ap (λ xs. lines_of (xs ++ flat_map part_line ps)) (part_spelled p)
    ∙ lines_first (codes "part") (part_words p) (flat_map part_line ps) head_word (decimal_word p.weight g.0.weight, (at_word, decimal_words (marked 0 p.marks) (short_marked n p h g.0)))
    ∙ ap (λ ls. words_of_part p ∷ ls) (lines_parts n ps h g.1)

lines_plan : (n : ℕ) (ls : List Leg) (long all : ℕ) (ps : List Part) → ShortPlan n ls long all ps → AllByRecursion (ShortPart n) ps →
    lines_of (planned_text ls long all ps) ≡ round_words ls ∷ words_of_length long all ∷ (map words_of_part ps ++ [] ∷ [])
lines_plan n ls long all ps s g =
    let round_word : Word (codes "round") = record { full = omega arith; in_word_all = refl } in
    let length_word : Word (codes "length") = record { full = omega arith; in_word_all = refl } in
    let of_word : Word (codes "of") = record { full = omega arith; in_word_all = refl } in
    let rest = flat_map part_line ps in
    ap lines_of (append_assoc (round_line ls) (length_line long all) rest)
    ∙ ap₂ (λ xs ys. lines_of (xs ++ (ys ++ rest))) (round_spelled ls) (length_spelled long all)
    ∙ lines_first (codes "round") (map leg_word ls) (line_text (codes "length") (length_words long all) ++ rest) round_word (leg_words ls (recursion_from_All (λ (l : Leg). l.by < 2 ^ 62) ls s.legs))
    ∙ ap (λ zs. round_words ls ∷ zs) (lines_first (codes "length") (length_words long all) rest length_word (decimal_word long s.lengths.0, (of_word, (decimal_word all s.lengths.1, tt))))
    ∙ ap (λ zs. round_words ls ∷ words_of_length long all ∷ zs) (lines_parts n ps s.crossings g)

-- their entries
abbrev part_entries : ℕ → List Part → List PartEntry
part_entries i [] = []
part_entries i (p ∷ ps) = record { line = i; weight = p.weight; crossings = marked 0 p.marks } ∷ part_entries (suc i) ps

abbrev plan_entries : ℕ → List Leg → List Part → List Entry
plan_entries i ls ps = RoundIs (map leg_number ls) ∷ LengthIs ∷ (map PartIs (part_entries (suc (suc i)) ps) ++ Nothing ∷ [])

entries_parts : (n i : ℕ) (es : List Entry) (ps : List Part) → n ≤ 100 → AllByRecursion (ShortPart n) ps →
    entries false i es (map words_of_part ps ++ [] ∷ []) ≡ Ok (es ++ (map PartIs (part_entries i ps) ++ Nothing ∷ []))
unfolding entries
entries_parts n i es [] h g = refl
entries_parts n i es (p ∷ ps) h g =
    let q : PartEntry = record { line = i; weight = p.weight; crossings = marked 0 p.marks } in
    next_line false i es (words_of_part p) (PartIs q) (map words_of_part ps ++ [] ∷ []) (part_said i p.weight (marked 0 p.marks) g.0.weight (short_marked n p h g.0)) refl
    ∙ entries_parts n (suc i) (es ++ PartIs q ∷ []) ps h g.1
    ∙ ap Ok (append_assoc es (PartIs q ∷ []) (map PartIs (part_entries (suc i) ps) ++ Nothing ∷ []))

entries_plan : (n i : ℕ) (es : List Entry) (ls : List Leg) (long all : ℕ) (ps : List Part) → ShortPlan n ls long all ps → AllByRecursion (ShortPart n) ps → filter_map round_in es ≡ [] →
    entries false i es (round_words ls ∷ words_of_length long all ∷ (map words_of_part ps ++ [] ∷ [])) ≡ Ok (es ++ plan_entries i ls ps)
entries_plan n i es ls long all ps s g none =
    let r = RoundIs (map leg_number ls) in
    next_line false i es (round_words ls) r (words_of_length long all ∷ (map words_of_part ps ++ [] ∷ [])) (round_said i ls (recursion_from_All (λ (l : Leg). l.by < 2 ^ 62) ls s.legs))
    (ap (λ rs. unless (is_none (head rs)) SecondRound) none)
    ∙ next_line false (suc i) (es ++ r ∷ []) (words_of_length long all) LengthIs (map words_of_part ps ++ [] ∷ []) (length_said (suc i) long all s.lengths.0 s.lengths.1) refl
    ∙ entries_parts n (suc (suc i)) ((es ++ r ∷ []) ++ LengthIs ∷ []) ps s.crossings g
    ∙ ap Ok (simp append_assoc)

-- what they say
record Silent (zs : List Entry) : Type 0 where
  crossings : filter_map crossings_in zs ≡ []
  depot : filter_map depot_in zs ≡ []
  streets : flat_map street_in zs ≡ []

parts_silent : (qs : List PartEntry) → Silent (map PartIs qs ++ Nothing ∷ [])
parts_silent [] = record { crossings = refl; depot = refl; streets = refl }
parts_silent (q ∷ qs) = let r = parts_silent qs in record { crossings = r.crossings; depot = r.depot; streets = r.streets }

plan_silent : (i : ℕ) (ls : List Leg) (ps : List Part) → Silent (plan_entries i ls ps)
plan_silent i ls ps = let r = parts_silent (part_entries (suc (suc i)) ps) in record { crossings = r.crossings; depot = r.depot; streets = r.streets }

no_rounds : (qs : List PartEntry) → filter_map round_in (map PartIs qs ++ Nothing ∷ []) ≡ []
no_rounds [] = refl
no_rounds (q ∷ qs) = no_rounds qs

all_parts : (qs : List PartEntry) → filter_map part_in (map PartIs qs ++ Nothing ∷ []) ≡ qs
all_parts [] = refl
all_parts (q ∷ qs) = ap (λ rs. q ∷ rs) (all_parts qs)

abbrev pub town_by : List ℕ → List ℕ → List ℕ → Result TownNumbers TextError
town_by cs ds ss = need NoCrossings (head cs) (λ n. need NoDepot (head ds) (λ d. Ok (record { crossings = n; depot = d; streets = ss })))

silent_behind : (es zs : List Entry) → Silent zs → town_from (es ++ zs) ≡ town_from es
silent_behind es zs s =
    let cs : filter_map crossings_in (es ++ zs) ≡ filter_map crossings_in es = filter_map-append crossings_in es zs ∙ ap (λ ys. filter_map crossings_in es ++ ys) s.crossings ∙ append-nil (filter_map crossings_in es) in
    let ds : filter_map depot_in (es ++ zs) ≡ filter_map depot_in es = filter_map-append depot_in es zs ∙ ap (λ ys. filter_map depot_in es ++ ys) s.depot ∙ append-nil (filter_map depot_in es) in
    let ss : flat_map street_in (es ++ zs) ≡ flat_map street_in es = flat_map-append street_in es zs ∙ ap (λ ys. flat_map street_in es ++ ys) s.streets ∙ append-nil (flat_map street_in es) in
    ap₂ (λ xs ys. town_by xs ys (flat_map street_in (es ++ zs))) cs ds ∙ ap (town_by (filter_map crossings_in es) (filter_map depot_in es)) ss

-- the parts that were written
parts_within : (n i : ℕ) (ps : List Part) → AllByRecursion (ShortPart n) ps → part_fault n (part_entries i ps) ≡ None
parts_within n i [] g = refl
parts_within n i (p ∷ ps) g =
    ap₂ (λ b (o : Option TextError). unless b (Line i PartCrossing) then o) (marked_in n p.marks (omega (arith, g.0.marks))) (parts_within n (suc i) ps g.1)

parts_numbered : (n i : ℕ) (ps : List Part) → n ≤ 100 → AllByRecursion (ShortPart n) ps → flat_map (part_numbers n) (part_entries i ps) ≡ sheet_numbers ps
parts_numbered n i [] h g = refl
parts_numbered n i (p ∷ ps) h g =
    let all_of : length p.marks ≡ min n 100 = g.0.marks ∙ sym (min-eq_left h) in
    ap₂ (λ xs ys. (p.weight ∷ xs) ++ ys) (marks_read (min n 100) p.marks all_of) (parts_numbered n (suc i) ps h g.1)

abbrev pub round_by : TownNumbers → List (List ℕ) → List PartEntry → Result RoundNumbers TextError
round_by t rs qs = need NoRound (head rs) (λ ls. unless_wrong (part_fault t.crossings qs) (record { town = t; legs = ls; parts = flat_map (part_numbers t.crossings) qs }))

round_said_behind : (t : TownNumbers) (i : ℕ) (es : List Entry) (ls : List Leg) (ps : List Part) → town_from es ≡ Ok t → OfTown es → t.crossings ≤ 100 → AllByRecursion (ShortPart t.crossings) ps →
    round_from (es ++ plan_entries i ls ps) ≡ Ok (plan_of t ls ps)
round_said_behind t i es ls ps e o h g =
    let zs = plan_entries i ls ps in
    let qs = part_entries (suc (suc i)) ps in
    let rounds : filter_map round_in (es ++ zs) ≡ map leg_number ls ∷ [] = filter_map-append round_in es zs ∙ ap₂ (λ xs ys. xs ++ map leg_number ls ∷ ys) o.no_round (no_rounds qs) in
    let parts : filter_map part_in (es ++ zs) ≡ qs = filter_map-append part_in es zs ∙ ap₂ (λ xs ys. xs ++ ys) o.no_part (all_parts qs) in
    ap (and_then (λ u. round_by u (filter_map round_in (es ++ zs)) (filter_map part_in (es ++ zs)))) (silent_behind es zs (plan_silent i ls ps) ∙ e)
    ∙ ap₂ (round_by t) rounds parts
    ∙ ap₂ (λ (f : Option TextError) (xs : List ℕ). unless_wrong f (let r : RoundNumbers = record { town = t; legs = map leg_number ls; parts = xs } in r)) (parts_within t.crossings (suc (suc i)) ps g) (parts_numbered t.crossings (suc (suc i)) ps h g)

-- the entries of a town that is told
pub told_apart : (t : TownNumbers) (r : Result (List Entry) TextError) → and_then town_from r ≡ Ok t → (es : List Entry) × (r ≡ Ok es) × (town_from es ≡ Ok t)
told_apart t (Ok es) e = (es, refl, e)
told_apart t (Err f) e = cc

-- a plan behind a newline
pub plan_behind : (text : List ℕ) (t : TownNumbers) (ls : List Leg) (long all : ℕ) (ps : List Part) → told_town text ≡ Ok t → ShortPlan t.crossings ls long all ps →
    told_round (text ++ 10 ∷ planned_text ls long all ps) ≡ Ok (plan_of t ls ps)
plan_behind text t ls long all ps e s =
    let g = short_parts t.crossings ps (All-from_get_or (λ (p : Part). length p.marks ≡ t.crossings) ps no_part s.marks) s.weights in
    let w = told_apart t (entries true 1 [] (lines_of text)) e in
    let es = w.0 in
    let a = alone_same es (lines_of text) w.1 in
    let o = a.1 in
    let i = 1 + length (lines_of text) in
    ap (λ zs. and_then round_from (entries false 1 [] zs)) (lines_apart text (planned_text ls long all ps) ∙ ap (λ zs. lines_of text ++ zs) (lines_plan t.crossings ls long all ps s g))
    ∙ ap (and_then round_from) (entries_append false 1 [] (lines_of text) (round_words ls ∷ words_of_length long all ∷ (map words_of_part ps ++ [] ∷ []))
    ∙ ap (and_then (λ bs. entries false i bs (round_words ls ∷ words_of_length long all ∷ (map words_of_part ps ++ [] ∷ [])))) a.0
    ∙ entries_plan t.crossings i es ls long all ps s g o.no_round)
    ∙ round_said_behind t i es ls ps w.2 o s.crossings g

-- a newline at the end changes nothing
newline_behind : (text : List ℕ) → told_town (text ++ 10 ∷ []) ≡ told_town text
unfolding entries
newline_behind text =
    ap (λ ls. and_then town_from (entries true 1 [] ls)) (lines_apart text [])
    ∙ ap (and_then town_from) (entries_append true 1 [] (lines_of text) ([] ∷ []))
    ∙ at (entries true 1 [] (lines_of text))
  where
    at : (r : Result (List Entry) TextError) → and_then town_from (and_then (λ es. Ok (es ++ Nothing ∷ [])) r) ≡ and_then town_from r
    at (Ok es) = silent_behind es (Nothing ∷ []) (record { crossings = refl; depot = refl; streets = refl })
    at (Err f) = refl

nothing_told : (t : TownNumbers) → told_town [] ≡ Ok t → ⊥
unfolding entries
nothing_told t e = cc

-- a text that is ended is one before a newline
ended_apart : (x : ℕ) (xs : List ℕ) → ended (x ∷ xs) ≡ true → x ∷ xs ≡ take (length xs) (x ∷ xs) ++ 10 ∷ []
ended_apart x xs h =
    let last : get_or (x ∷ xs) (length xs) 10 ≡ 10 = ap (λ k. get_or (x ∷ xs) k 10) (omega arith) ∙ eqb-true (get_or (x ∷ xs) (length (x ∷ xs) - 1) 10) 10 h in
    sym (take_all (length xs + 1) (x ∷ xs) (omega arith)) ∙ take_more (x ∷ xs) (length xs) 10 (omega arith) ∙ ap (λ c. take (length xs) (x ∷ xs) ++ c ∷ []) last

-- a plan behind a text that is ended
pub plan_on : (text : List ℕ) (t : TownNumbers) (ls : List Leg) (long all : ℕ) (ps : List Part) → told_town text ≡ Ok t → ShortPlan t.crossings ls long all ps → ended text ≡ true →
    told_round (text ++ planned_text ls long all ps) ≡ Ok (plan_of t ls ps)
plan_on [] t ls long all ps e s h = absurd (nothing_told t e)
plan_on (x ∷ xs) t ls long all ps e s h =
    let front = take (length xs) (x ∷ xs) in
    let apart = ended_apart x xs h in
    let u = planned_text ls long all ps in
    ap (λ text. told_round (text ++ u)) apart ∙ ap told_round (append_assoc front (10 ∷ []) u)
    ∙ plan_behind front t ls long all ps (sym (newline_behind front) ∙ sym (ap told_town apart) ∙ e) s
