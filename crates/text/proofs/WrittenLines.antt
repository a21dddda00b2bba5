-- What written lines say: each as words, and what its words say. Assumes nothing.
use Rattle.std.proofs.Common.{◌≡◌, ℕ, ◌^◌, ◌<◌, true, ◌&&◌, cond, List, [], ◌∷◌, ◌++◌, map, decimal, codes, Option, Some, Ok, Err, Result, is_some, option_map, ok_or, refl, ap, ap₂, ◌∙◌, append_assoc, map-id}
use Rattle.std.specs.List.{AllByRecursion, flat_map}
use Rattle.road.specs.declared.street.Street.{Street}
use Rattle.road.specs.declared.leg.Leg.{Leg}
use Rattle.road.specs.Numbers.{leg_number}
use Rattle.sheet.specs.Sheet.{Part}
use Rattle.text.specs.declared.line_fault.LineFault.TheVariants.{Crossings, Depot, Street as StreetFault, Round, Length}
use Rattle.text.specs.Words.{number_in, leg_in, each}
use Rattle.text.specs.Entries.{Entry, CrossingsAre, DepotIs, StreetIs, RoundIs, LengthIs, PartIs, entry}
use Rattle.text.specs.Plans.{leg_text, round_line, length_line, part_line}
use Rattle.text.specs.Towns.{crossings_line, depot_line, street_line, street_numbers}
use Rattle.text.proofs.Spelled.{spaced, line_text}
use Rattle.text.proofs.Digits.{leg_word, number_back, leg_read, each_back}
use Rattle.text.proofs.Marked.{marked, marks_spelled}

-- the words behind the first of each line
abbrev pub length_words : ℕ → ℕ → List (List ℕ)
length_words long all = decimal long ∷ codes "of" ∷ decimal all ∷ []

abbrev pub part_words : Part → List (List ℕ)
part_words p = decimal p.weight ∷ codes "at" ∷ map decimal (marked 0 p.marks)

abbrev pub street_words : Street → List (List ℕ)
street_words s = decimal s.one ∷ decimal s.two ∷ decimal s.long ∷ []

legs_spelled : (ls : List Leg) → flat_map leg_text ls ≡ spaced (map leg_word ls)
legs_spelled [] = refl
legs_spelled (l ∷ ls) = ap (λ xs. 32 ∷ (leg_word l ++ xs)) (legs_spelled ls)

pub round_spelled : (ls : List Leg) → round_line ls ≡ line_text (codes "round") (map leg_word ls)
round_spelled ls = ap (λ xs. (codes "round" ++ xs) ++ codes "\n") (legs_spelled ls)

pub length_spelled : (long all : ℕ) → length_line long all ≡ line_text (codes "length") (length_words long all)
length_spelled long all = simp append_assoc

pub part_spelled : (p : Part) → part_line p ≡ line_text (codes "part") (part_words p)
part_spelled p = ap (λ xs. ((codes "part " ++ (decimal p.weight ++ codes " at")) ++ xs) ++ codes "\n") (marks_spelled 0 p.marks) ∙ simp append_assoc

pub crossings_spelled : (n : ℕ) → crossings_line n ≡ line_text (codes "crossings") (decimal n ∷ [])
crossings_spelled n = simp append_assoc

pub depot_spelled : (d : ℕ) → depot_line d ≡ line_text (codes "depot") (decimal d ∷ [])
depot_spelled d = simp append_assoc

pub street_spelled : (s : Street) → street_line s ≡ line_text (codes "street") (street_words s)
street_spelled s = simp append_assoc

-- what they say
pub round_said : (i : ℕ) (ls : List Leg) → AllByRecursion (λ (l : Leg). l.by < 2 ^ 62) ls → entry i (codes "round" ∷ map leg_word ls) ≡ Ok (RoundIs (map leg_number ls))
round_said i ls h = ap (λ o. ok_or (option_map RoundIs o) Round) (each_back leg_in leg_word leg_number ls (each_leg ls h))
  where
    each_leg : (ls : List Leg) → AllByRecursion (λ (l : Leg). l.by < 2 ^ 62) ls → AllByRecursion (λ (l : Leg). leg_in (leg_word l) ≡ Some (leg_number l)) ls
    each_leg [] h = tt
    each_leg (l ∷ ls) h = (leg_read l h.0, each_leg ls h.1)

pub length_said : (i long all : ℕ) → long < 10 ^ 19 → all < 10 ^ 19 → entry i (codes "length" ∷ length_words long all) ≡ Ok LengthIs
length_said i long all a b =
    ap₂ (λ (o p : Option ℕ). let r : Result Entry _ = cond ((is_some o && true) && is_some p) (Ok LengthIs) (Err Length) in r) (number_back long a) (number_back all b)

numbers_back : (vs : List ℕ) → AllByRecursion (λ v. v < 10 ^ 19) vs → each number_in (map decimal vs) ≡ Some vs
numbers_back vs h = each_back number_in decimal (λ v. v) vs (each_number vs h) ∙ ap Some (map-id vs)
  where
    each_number : (vs : List ℕ) → AllByRecursion (λ v. v < 10 ^ 19) vs → AllByRecursion (λ v. number_in (decimal v) ≡ Some v) vs
    each_number [] h = tt
    each_number (v ∷ vs) h = (number_back v h.0, each_number vs h.1)

pub part_said : (i w : ℕ) (vs : List ℕ) → w < 10 ^ 19 → AllByRecursion (λ v. v < 10 ^ 19) vs →
    entry i (codes "part" ∷ decimal w ∷ codes "at" ∷ map decimal vs) ≡ Ok (PartIs (record { line = i; weight = w; crossings = vs }))
part_said i w vs a h = rw (number_back w a, numbers_back vs h) refl

pub crossings_said : (i n : ℕ) → n < 10 ^ 19 → entry i (codes "crossings" ∷ decimal n ∷ []) ≡ Ok (CrossingsAre n)
crossings_said i n h = ap (λ o. ok_or (option_map CrossingsAre o) Crossings) (number_back n h)

pub depot_said : (i d : ℕ) → d < 10 ^ 19 → entry i (codes "depot" ∷ decimal d ∷ []) ≡ Ok (DepotIs d)
depot_said i d h = ap (λ o. ok_or (option_map DepotIs o) Depot) (number_back d h)

pub street_said : (i : ℕ) (s : Street) → s.one < 10 ^ 19 → s.two < 10 ^ 19 → s.long < 10 ^ 19 → entry i (codes "street" ∷ street_words s) ≡ Ok (StreetIs (street_numbers s))
street_said i s a b c = ap (λ o. ok_or (option_map StreetIs o) StreetFault) (numbers_back (street_numbers s) (a, (b, (c, tt))))
