-- The format: the town, round and sheet that a text tells. Assumes nothing: these are definitions.
use Rattle.std.specs.Prelude.{◌≡◌, ℕ, suc, Bool, true, false, not, ◌&&◌, List, [], ◌∷◌, ◌++◌, map, nat_lt, min, Some, None, Option, Ok, Err, Result, if◌then◌else◌, ◌==◌, vec_items}
use Rattle.std.specs.Option.{is_none}
use Rattle.std.specs.List.{filter_map, flat_map, list_any, list_all, range_with_len}
use Rattle.road.specs.Counts.{bit}
use Rattle.road.specs.First.{unless, ◌then◌}
use Rattle.text.specs.declared.line_fault.LineFault.{LineFault}
use Rattle.text.specs.declared.line_fault.LineFault.TheVariants.{SecondCrossings, SecondDepot, SecondRound, OfCheck, PartCrossing}
use Rattle.text.specs.declared.text_error.TextError.{TextError}
use Rattle.text.specs.declared.text_error.TextError.TheVariants.{Line, NoCrossings, NoDepot, NoRound, Memory}
use Rattle.text.specs.declared.texts.TownText.{TownText}
use Rattle.text.specs.declared.texts.RoundText.{RoundText}
use Rattle.text.specs.Words.{lines_of}
use Rattle.text.specs.Entries.{Entry, CrossingsAre, DepotIs, StreetIs, RoundIs, LengthIs, PartIs, PartEntry, entry}

-- the first of a list
abbrev pub head : {A : Type 0} → List A → Option A
head [] = None
head (x ∷ xs) = Some x

-- what an entry says of each kind
abbrev pub crossings_in : Entry → Option ℕ
crossings_in (CrossingsAre n) = Some n
crossings_in e = None

abbrev pub depot_in : Entry → Option ℕ
depot_in (DepotIs d) = Some d
depot_in e = None

abbrev pub street_in : Entry → List ℕ
street_in (StreetIs xs) = xs
street_in e = []

abbrev pub round_in : Entry → Option (List ℕ)
round_in (RoundIs ls) = Some ls
round_in e = None

abbrev pub part_in : Entry → Option PartEntry
part_in (PartIs p) = Some p
part_in e = None

-- an entry of a round or a sheet
abbrev pub of_check : Entry → Bool
of_check (RoundIs ls) = true
of_check LengthIs = true
of_check (PartIs p) = true
of_check e = false

-- a second entry of a kind of which a text has one
abbrev pub second : List Entry → Entry → Option LineFault
second before (CrossingsAre n) = unless (is_none (head (filter_map crossings_in before))) SecondCrossings
second before (DepotIs d) = unless (is_none (head (filter_map depot_in before))) SecondDepot
second before (RoundIs ls) = unless (is_none (head (filter_map round_in before))) SecondRound
second before e = None

-- an entry that may not stand behind those before it: one of a round or a sheet where a town stands alone, or a second one
abbrev pub misplaced : Bool → List Entry → Entry → Option LineFault
misplaced alone before e = unless (not (alone && of_check e)) OfCheck then second before e

-- what a line adds to the entries before it, or what is wrong with it
abbrev pub placed : Option LineFault → List Entry → Entry → Result (List Entry) LineFault
placed (Some f) before e = Err f
placed None before e = Ok (before ++ e ∷ [])

abbrev pub added : Bool → List Entry → Result Entry LineFault → Result (List Entry) LineFault
added alone before (Err f) = Err f
added alone before (Ok e) = placed (misplaced alone before e) before e

-- goes on behind a line, unless something is wrong with it
abbrev pub behind : {A : Type 0} → ℕ → (List Entry → Result A TextError) → Result (List Entry) LineFault → Result A TextError
behind line on (Err f) = Err (Line line f)
behind line on (Ok es) = on es

-- the entries of all lines, the first of which has that number, behind those before; or the first line at which something is wrong
unfoldable pub entries : Bool → ℕ → List Entry → List (List (List ℕ)) → Result (List Entry) TextError
entries alone line before [] = Ok before
entries alone line before (ws ∷ more) = behind line (λ es. entries alone (suc line) es more) (added alone before (entry line ws))

-- a town in numbers, three for each street
pub record TownNumbers : Type 0 where
  pub crossings : ℕ
  pub depot : ℕ
  pub streets : List ℕ

-- a town, a round and a sheet in numbers, as the checker takes them
pub record RoundNumbers : Type 0 where
  pub town : TownNumbers
  pub legs : List ℕ
  pub parts : List ℕ

-- a mark for each of n crossings
abbrev pub marks_of : ℕ → List ℕ → List ℕ
marks_of n vs = map (λ v. bit (list_any (λ w. w == v) vs)) (range_with_len 0 n)

-- a part in numbers; a town of more than 100 crossings is turned away, and has no more marks than 100
abbrev pub part_numbers : ℕ → PartEntry → List ℕ
part_numbers n p = p.weight ∷ marks_of (min n 100) p.crossings

-- the first part with a crossing past the town's
abbrev pub part_fault : ℕ → List PartEntry → Option TextError
part_fault n [] = None
part_fault n (p ∷ ps) = unless (list_all (λ v. nat_lt v n) p.crossings) (Line p.line PartCrossing) then part_fault n ps

-- goes on with a value that is there
abbrev pub need : {A B : Type 0} → TextError → Option A → (A → Result B TextError) → Result B TextError
need missing None on = Err missing
need missing (Some x) on = on x

-- goes on with a result that is none of the faults
abbrev pub and_then : {A B : Type 0} → (A → Result B TextError) → Result A TextError → Result B TextError
and_then on (Ok x) = on x
and_then on (Err e) = Err e

-- a value, unless something is wrong
abbrev pub unless_wrong : {A : Type 0} → Option TextError → A → Result A TextError
unless_wrong (Some e) x = Err e
unless_wrong None x = Ok x

-- the town that entries tell
abbrev pub town_from : List Entry → Result TownNumbers TextError
town_from es =
    need NoCrossings (head (filter_map crossings_in es)) (λ n.
    need NoDepot (head (filter_map depot_in es)) (λ d.
    Ok (record { crossings = n; depot = d; streets = flat_map street_in es })))

-- the town, round and sheet
abbrev pub round_from : List Entry → Result RoundNumbers TextError
round_from es = and_then (λ t.
    need NoRound (head (filter_map round_in es)) (λ ls.
    unless_wrong (part_fault t.crossings (filter_map part_in es))
    (record { town = t; legs = ls; parts = flat_map (part_numbers t.crossings) (filter_map part_in es) }))) (town_from es)

-- what a text tells
abbrev pub told_town : List ℕ → Result TownNumbers TextError
told_town text = and_then town_from (entries true 1 [] (lines_of text))

abbrev pub told_round : List ℕ → Result RoundNumbers TextError
told_round text = and_then round_from (entries false 1 [] (lines_of text))

-- the numbers of a text of the code
abbrev pub town_numbers : TownText → TownNumbers
town_numbers x = record { crossings = x.crossings; depot = x.depot; streets = vec_items x.streets }

abbrev pub round_numbers : RoundText → RoundNumbers
round_numbers x = record { town = town_numbers x.town; legs = vec_items x.legs; parts = vec_items x.parts }

-- a result that is what a text tells, seen by view, unless memory is wanting
abbrev pub Fails : {B : Type 0} → TextError → Result B TextError → Type 0
Fails Memory told = Unit {0}
Fails e told = told ≡ Err e

abbrev pub Tells : {A B : Type 0} → (A → B) → Result B TextError → Result A TextError → Type 0
Tells view told (Ok x) = told ≡ Ok (view x)
Tells view told (Err e) = Fails e told
