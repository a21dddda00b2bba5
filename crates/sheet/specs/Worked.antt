-- Worked towns, with a shortest round and a sheet that agrees. Assumes nothing: these are definitions.
use Rattle.std.specs.Prelude.{◌≡◌, ℕ, ◌<◌, List, [], ◌∷◌, length, slice_index_or}
use Rattle.road.specs.Roads.{Round, far}
use Rattle.road.specs.Numbers.{town_in, legs_in}
use Rattle.sheet.specs.Sheet.{Sheet}
use Rattle.sheet.specs.Numbers.{sheet_in}
use Rattle.sheet.specs.Laws.{Agree}

-- town, round from crossing 0 and sheet, as numbers, and the round's length
pub record Worked : Type 0 where
  pub crossings : ℕ
  pub streets : List ℕ
  pub legs : List ℕ
  pub parts : List ℕ
  pub long : ℕ

abbrev pub ring : Worked
ring = record { crossings = 3; streets = 0 ∷ 1 ∷ 3 ∷ 1 ∷ 2 ∷ 4 ∷ 2 ∷ 0 ∷ 5 ∷ []; legs = 0 ∷ 2 ∷ 4 ∷ []; parts = []; long = 12 }

abbrev pub road : Worked
road = record { crossings = 2; streets = 0 ∷ 1 ∷ 7 ∷ []; legs = 0 ∷ 1 ∷ []; parts = 14 ∷ 0 ∷ 1 ∷ []; long = 14 }

abbrev pub parallel : Worked
parallel = record { crossings = 2; streets = 0 ∷ 1 ∷ 2 ∷ 0 ∷ 1 ∷ 3 ∷ 0 ∷ 1 ∷ 5 ∷ []; legs = 0 ∷ 1 ∷ 2 ∷ 5 ∷ []; parts = 4 ∷ 0 ∷ 1 ∷ []; long = 12 }

-- four crossings, each two joined by a street of 1: only odd weights agree
abbrev pub complete : Worked
complete = record {
  crossings = 4;
  streets = 0 ∷ 1 ∷ 1 ∷ 0 ∷ 2 ∷ 1 ∷ 0 ∷ 3 ∷ 1 ∷ 1 ∷ 2 ∷ 1 ∷ 1 ∷ 3 ∷ 1 ∷ 2 ∷ 3 ∷ 1 ∷ [];
  legs = 0 ∷ 1 ∷ 2 ∷ 7 ∷ 8 ∷ 11 ∷ 10 ∷ 5 ∷ [];
  parts = 1 ∷ 1 ∷ 0 ∷ 0 ∷ 0 ∷ 1 ∷ 0 ∷ 1 ∷ 0 ∷ 0 ∷ 1 ∷ 0 ∷ 0 ∷ 1 ∷ 0 ∷ 1 ∷ 0 ∷ 0 ∷ 0 ∷ 1 ∷ [];
  long = 8;
}

abbrev pub star : Worked
star = record {
  crossings = 4;
  streets = 0 ∷ 1 ∷ 2 ∷ 0 ∷ 2 ∷ 3 ∷ 0 ∷ 3 ∷ 4 ∷ [];
  legs = 0 ∷ 1 ∷ 2 ∷ 3 ∷ 4 ∷ 5 ∷ [];
  parts = 4 ∷ 0 ∷ 1 ∷ 0 ∷ 0 ∷ 6 ∷ 0 ∷ 0 ∷ 1 ∷ 0 ∷ 8 ∷ 0 ∷ 0 ∷ 0 ∷ 1 ∷ [];
  long = 18;
}

-- two rings and a bridge between them
abbrev pub bridge : Worked
bridge = record {
  crossings = 6;
  streets = 0 ∷ 1 ∷ 1 ∷ 1 ∷ 2 ∷ 1 ∷ 2 ∷ 0 ∷ 1 ∷ 2 ∷ 3 ∷ 6 ∷ 3 ∷ 4 ∷ 1 ∷ 4 ∷ 5 ∷ 1 ∷ 5 ∷ 3 ∷ 1 ∷ [];
  legs = 0 ∷ 2 ∷ 6 ∷ 8 ∷ 10 ∷ 12 ∷ 7 ∷ 4 ∷ [];
  parts = 12 ∷ 1 ∷ 1 ∷ 1 ∷ 0 ∷ 0 ∷ 0 ∷ [];
  long = 18;
}

-- a street whose ends are one crossing
abbrev pub loop : Worked
loop = record { crossings = 2; streets = 0 ∷ 1 ∷ 4 ∷ 1 ∷ 1 ∷ 3 ∷ []; legs = 0 ∷ 2 ∷ 1 ∷ []; parts = 8 ∷ 1 ∷ 0 ∷ []; long = 11 }

abbrev pub table : List Worked
table = ring ∷ road ∷ parallel ∷ complete ∷ star ∷ bridge ∷ loop ∷ []

-- the legs are a round of that length, the parts are a sheet, and they agree
pub record Right (e : Worked) : Type 0 where
  pub round : Round (town_in e.crossings e.streets) 0 (legs_in e.legs)
  pub length_is : far (town_in e.crossings e.streets) (legs_in e.legs) ≡ e.long
  pub sheet : Sheet (town_in e.crossings e.streets) (sheet_in e.crossings e.parts)
  pub agree : Agree (town_in e.crossings e.streets) (legs_in e.legs) (sheet_in e.crossings e.parts)

abbrev pub WorkedTowns : Type 0
WorkedTowns = (i : ℕ) → i < length table → Right (slice_index_or table i ring)
