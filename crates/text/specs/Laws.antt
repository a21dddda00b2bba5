-- What is written is read back, and what is read is what the lines say. Each statement is a type that src/laws.rt asks a proof of. Assumes nothing.
use Rattle.std.specs.Prelude.{◌≡◌, ℕ, ◌-◌, ◌^◌, ◌<◌, ◌≤◌, ◌⊎◌, ◌↔◌, Bool, true, false, List, ◌∷◌, ◌++◌, map, length, Ok, Err, ◌==◌, slice_index_or}
use Rattle.std.specs.List.{All, flat_map}
use Rattle.road.specs.declared.street.Street.{Street}
use Rattle.road.specs.declared.leg.Leg.{Leg}
use Rattle.road.specs.Roads.{Town}
use Rattle.road.specs.Numbers.{leg_number, legs_in}
use Rattle.sheet.specs.Sheet.{Part}
use Rattle.sheet.specs.Numbers.{AllMarked, sheet_in, sheet_numbers}
use Rattle.text.specs.declared.text_error.TextError.{TextError}
use Rattle.text.specs.Words.{lines_of}
use Rattle.text.specs.Entries.{Entry}
use Rattle.text.specs.Plans.{planned_text}
use Rattle.text.specs.Towns.{town_text, street_numbers}
use Rattle.text.specs.Format.{TownNumbers, RoundNumbers, told_town, told_round}
use Rattle.text.specs.Told.{Say, Stand, AtLine, TellTown, TellRound, TownLacks, RoundLacks}
use Rattle.text.specs.Texts.{town_of}

-- a number of at most 19 digits
abbrev pub Short : ℕ → Type 0
Short n = n < 10 ^ 19

-- a town and its depot in such numbers
pub record ShortTown (t : Town) (d : ℕ) : Type 0 where
  pub crossings : Short t.crossings
  pub depot : Short d
  pub one : All (λ (s : Street). Short s.one) t.streets
  pub two : All (λ (s : Street). Short s.two) t.streets
  pub long : All (λ (s : Street). Short s.long) t.streets

-- legs, lengths and a sheet in such numbers, for a town of n crossings
pub record ShortPlan (n : ℕ) (ls : List Leg) (long all : ℕ) (ps : List Part) : Type 0 where
  pub crossings : n ≤ 100
  pub legs : All (λ (l : Leg). l.by < 2 ^ 62) ls
  pub lengths : Short long × Short all
  pub marks : AllMarked n ps
  pub weights : All (λ (p : Part). Short p.weight) ps

abbrev pub numbers_of : Town → ℕ → TownNumbers
numbers_of t depot = record { crossings = t.crossings; depot = depot; streets = flat_map street_numbers t.streets }

-- a town, a round and a sheet in numbers
abbrev pub plan_of : TownNumbers → List Leg → List Part → RoundNumbers
plan_of t ls ps = record { town = t; legs = map leg_number ls; parts = sheet_numbers ps }

-- a text is empty or its last line is ended
abbrev pub ended : List ℕ → Bool
ended text = slice_index_or text (length text - 1) 10 == 10

-- a town that is written is read back
abbrev pub TownReadBack : Type 0
TownReadBack = (t : Town) (depot : ℕ) → ShortTown t depot → told_town (town_text t depot) ≡ Ok (numbers_of t depot)

-- so are a round and a sheet that are written behind the text of a town
abbrev pub PlanReadBack : Type 0
PlanReadBack =
    (text : List ℕ) (t : TownNumbers) (ls : List Leg) (long all : ℕ) (ps : List Part) → told_town text ≡ Ok t → ShortPlan t.crossings ls long all ps →
    (told_round (text ++ 10 ∷ planned_text ls long all ps) ≡ Ok (plan_of t ls ps)) × (ended text ≡ true → told_round (text ++ planned_text ls long all ps) ≡ Ok (plan_of t ls ps))

-- so a town, a round and a sheet that are written one behind the other are read back, and their numbers are theirs
abbrev pub WholeReadBack : Type 0
WholeReadBack =
    (t : Town) (depot : ℕ) (ls : List Leg) (long all : ℕ) (ps : List Part) → ShortTown t depot → ShortPlan t.crossings ls long all ps →
    (told_round (town_text t depot ++ planned_text ls long all ps) ≡ Ok (plan_of (numbers_of t depot) ls ps))
    × (town_of (numbers_of t depot) ≡ t)
    × (legs_in (map leg_number ls) ≡ ls)
    × (sheet_in t.crossings (sheet_numbers ps) ≡ ps)

-- a town is told just if each line says something, nothing twice and nothing of a round or a sheet, and it is what they tell
abbrev pub TownTold : Type 0
TownTold = (text : List ℕ) (t : TownNumbers) → (told_town text ≡ Ok t) ↔ ((es : List Entry) × Say (lines_of text) es × Stand true es × TellTown es t)

-- a town, a round and a sheet just if each line says something, nothing twice, and they are what they tell
abbrev pub RoundTold : Type 0
RoundTold = (text : List ℕ) (r : RoundNumbers) → (told_round text ≡ Ok r) ↔ ((es : List Entry) × Say (lines_of text) es × Stand false es × TellRound es r)

-- it is no town just if a line is the first at which something is wrong, or each says something and a town lacks something, with that fault
abbrev pub TownFaulty : Type 0
TownFaulty = (text : List ℕ) (e : TextError) → (told_town text ≡ Err e) ↔ (AtLine true (lines_of text) e ⊎ ((es : List Entry) × Say (lines_of text) es × Stand true es × TownLacks es e))

-- and no town, round and sheet just if so, or there is a town and the rest lacks something
abbrev pub RoundFaulty : Type 0
RoundFaulty =
    (text : List ℕ) (e : TextError) → (told_round text ≡ Err e)
    ↔ (AtLine false (lines_of text) e
    ⊎ ((es : List Entry) × Say (lines_of text) es × Stand false es × (TownLacks es e ⊎ ((t : TownNumbers) × TellTown es t × RoundLacks t es e))))
