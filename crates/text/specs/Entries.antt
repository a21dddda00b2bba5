-- What each line of a text says. Assumes nothing: these are definitions.
use Rattle.std.specs.Prelude.{ℕ, ◌&&◌, ◌==◌, Bool, false, List, [], ◌∷◌, codes, length, Some, None, Option, Ok, Err, Result, if◌then◌else◌}
use Rattle.std.specs.Option.{is_some, option_map, ok_or}
use Rattle.std.specs.Str.{bytes_eq}
use Rattle.text.specs.declared.line_fault.LineFault.{LineFault}
use Rattle.text.specs.declared.line_fault.LineFault.TheVariants.{FirstWord, Crossings, Depot, Street, Round, Length, Part}
use Rattle.text.specs.Words.{number_in, leg_in, each}

-- a part: the number of its line, its weight, and the crossings that it names
pub record PartEntry : Type 0 where
  pub line : ℕ
  pub weight : ℕ
  pub crossings : List ℕ

-- what a line says; a street is its three numbers, and legs are numbers; of a length no more is known than that it is one
pub data Entry : Type 0 where
  Nothing : Entry
  CrossingsAre : ℕ → Entry
  DepotIs : ℕ → Entry
  StreetIs : List ℕ → Entry
  RoundIs : List ℕ → Entry
  LengthIs : Entry
  PartIs : PartEntry → Entry

-- as many numbers
abbrev pub numbers_in : ℕ → List (List ℕ) → Option (List ℕ)
numbers_in n ws = if length ws == n then each number_in ws else None

-- one number
abbrev pub number_alone : List (List ℕ) → Option ℕ
number_alone (w ∷ []) = number_in w
number_alone ws = None

-- L of A
abbrev pub is_length : List (List ℕ) → Bool
is_length (long ∷ of ∷ all ∷ []) = (is_some (number_in long) && bytes_eq of (codes "of")) && is_some (number_in all)
is_length ws = false

-- W at, and crossings
abbrev pub part_in : ℕ → List (List ℕ) → Option PartEntry
part_in line (weight ∷ at ∷ vs) = if bytes_eq at (codes "at") then weighed (number_in weight) (each number_in vs) else None
  where
    weighed : Option ℕ → Option (List ℕ) → Option PartEntry
    weighed (Some w) (Some xs) = Some (record { line = line; weight = w; crossings = xs })
    weighed w xs = None
part_in line ws = None

-- what a line of that number and of these words says, or what was expected in its place
abbrev pub entry : ℕ → List (List ℕ) → Result Entry LineFault
entry line [] = Ok Nothing
entry line (w ∷ ws) =
    if bytes_eq w (codes "crossings") then ok_or (option_map CrossingsAre (number_alone ws)) Crossings
    else if bytes_eq w (codes "depot") then ok_or (option_map DepotIs (number_alone ws)) Depot
    else if bytes_eq w (codes "street") then ok_or (option_map StreetIs (numbers_in 3 ws)) Street
    else if bytes_eq w (codes "round") then ok_or (option_map RoundIs (each leg_in ws)) Round
    else if bytes_eq w (codes "length") then (if is_length ws then Ok LengthIs else Err Length)
    else if bytes_eq w (codes "part") then ok_or (option_map PartIs (part_in line ws)) Part
    else Err FirstWord
