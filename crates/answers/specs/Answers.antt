-- What the programs answer to a text. Assumes nothing: these are definitions.
use Rattle.std.specs.Prelude.{◌≡◌, ℕ, ◌-◌, ◌==◌, List, [], ◌∷◌, ◌++◌, length, map, Some, None, Ok, Option, Result, if◌then◌else◌, slice_index, string_bytes}
use Rattle.road.specs.declared.leg.Leg.{Leg}
use Rattle.road.specs.Roads.{Town, Round, Shortest, far, all_streets}
use Rattle.road.specs.Numbers.{legs_in, leg_number}
use Rattle.road.specs.Refusals.{listed}
use Rattle.sheet.specs.declared.word.Word.{Word}
use Rattle.sheet.specs.declared.word.Word.TheVariants.{NoRound, NoSheet, Shortest as SaysShortest, Apart}
use Rattle.sheet.specs.Sheet.{Part, Sheet}
use Rattle.sheet.specs.Numbers.{sheet_in, sheet_numbers, AllMarked}
use Rattle.sheet.specs.Laws.{Agree}
use Rattle.text.specs.declared.text_error.TextError.{TextError}
use Rattle.text.specs.Format.{TownNumbers, RoundNumbers, told_town, told_round, Fails}
use Rattle.text.specs.Texts.{town_of, no_plan, no_check, word_on}
use Rattle.text.specs.Plans.{planned_text}
use Rattle.text.specs.Said.{said_text, shortest_text}
use Rattle.round.specs.Plans.{Agreed}
use Rattle.worksheet.specs.Worksheet.{worksheet_text}
use Rattle.files.specs.declared.answer.Lengths.{Lengths}
use Rattle.files.specs.declared.answer.Reply.{Reply}
use Rattle.answers.specs.declared.no_answer.NoAnswer.{NoAnswer}
use Rattle.answers.specs.declared.no_answer.NoAnswer.TheVariants.{Text, Refused}

-- no answer: what is wrong with the text, or the refusal that is due for what it tells
abbrev pub Refuses : {A : Type 0} → Result A TextError → (A → Option (ℕ × ℕ)) → NoAnswer → Type 0
Refuses told due (Text e) = Fails e told
Refuses {A} told due (Refused r) = (x : A) × (told ≡ Ok x) × (due x ≡ Some (listed r))

-- the newline that is wanting at the end of a text
abbrev pub line_end : List ℕ → List ℕ
line_end text = if slice_index text (length text - 1) == 10 then [] else 10 ∷ []

-- the length of a round beside that of all streets
abbrev pub lengths_of : Town → ℕ → Lengths
lengths_of t long = record { round = long; streets = all_streets t.streets }

-- a plan of the town that a text tells: the text of a shortest round, of its length and that of all streets, and of a sheet that agrees with it; behind the town's text it is read as just these
pub record Plans (text : List ℕ) (a : Reply) : Type 0 where
  pub town : TownNumbers
  pub legs : List Leg
  pub parts : List Part
  pub told : told_town text ≡ Ok town
  pub taken : no_plan town ≡ None
  pub agreed : Agreed (town_of town) town.depot legs parts
  pub marked : AllMarked town.crossings parts
  pub written : string_bytes a.text ≡ line_end text ++ planned_text legs (far (town_of town) legs) (all_streets (town_of town).streets) parts
  pub lengths : a.lengths ≡ Some (lengths_of (town_of town) (far (town_of town) legs))
  pub read_back : told_round (text ++ string_bytes a.text) ≡ Ok (record { town = town; legs = map leg_number legs; parts = sheet_numbers parts })

-- the lengths of a round that is a shortest one
abbrev pub shortest_lengths : ℕ → Word → Option Lengths
shortest_lengths all (SaysShortest n) = Some (record { round = n; streets = all })
shortest_lengths all (NoRound f) = None
shortest_lengths all (NoSheet f) = None
shortest_lengths all (Apart n m) = None

-- the checker's answer to a text
pub record Checks (text : List ℕ) (a : Reply) : Type 0 where
  pub numbers : RoundNumbers
  pub told : told_round text ≡ Ok numbers
  pub taken : no_check numbers ≡ None
  pub written : string_bytes a.text ≡ said_text (word_on numbers) ++ 10 ∷ []
  pub lengths : a.lengths ≡ shortest_lengths (all_streets (town_of numbers.town).streets) (word_on numbers)

-- the worksheet of what a text tells, and the checker's word beneath
pub record Worksheets (text : List ℕ) (a : Reply) : Type 0 where
  pub numbers : RoundNumbers
  pub told : told_round text ≡ Ok numbers
  pub taken : no_check numbers ≡ None
  pub written : string_bytes a.text
      ≡ worksheet_text (town_of numbers.town) (legs_in numbers.legs) (sheet_in numbers.town.crossings numbers.parts) ++ (said_text (word_on numbers) ++ 10 ∷ [])
  pub lengths : a.lengths ≡ shortest_lengths (all_streets (town_of numbers.town).streets) (word_on numbers)

-- a text tells a town, a depot, a round of that length, and a sheet that agrees with it
pub record TellsShortest (text : List ℕ) (n : ℕ) : Type 0 where
  pub numbers : RoundNumbers
  pub told : told_round text ≡ Ok numbers
  pub round : Round (town_of numbers.town) numbers.town.depot (legs_in numbers.legs)
  pub sheet : Sheet (town_of numbers.town) (sheet_in numbers.town.crossings numbers.parts)
  pub agree : Agree (town_of numbers.town) (legs_in numbers.legs) (sheet_in numbers.town.crossings numbers.parts)
  pub length_is : n ≡ far (town_of numbers.town) (legs_in numbers.legs)

-- and so that is the length of a shortest round of the town
pub record ShortestOf (text : List ℕ) (n : ℕ) : Type 0 where
  pub numbers : RoundNumbers
  pub told : told_round text ≡ Ok numbers
  pub legs : List Leg
  pub shortest : Shortest (town_of numbers.town) numbers.town.depot legs
  pub length_is : n ≡ far (town_of numbers.town) legs

-- the line that says shortest
abbrev pub shortest_line : ℕ → List ℕ
shortest_line n = shortest_text n ++ 10 ∷ []
