-- The text of a plan. Assumes nothing: these are definitions.
use Rattle.std.specs.Prelude.{ℕ, suc, Bool, cond, List, [], ◌∷◌, ◌++◌, codes, decimal}
use Rattle.std.specs.List.{flat_map}
use Rattle.road.specs.declared.leg.Leg.{Leg}
use Rattle.sheet.specs.Sheet.{Part}
use Rattle.sheet.specs.Numbers.{marks_in}

-- a leg: its street's number, and a b if it is driven back
abbrev pub leg_text : Leg → List ℕ
leg_text l = codes " " ++ (decimal l.by ++ cond l.back (codes "b") [])

abbrev pub round_line : List Leg → List ℕ
round_line ls = codes "round" ++ flat_map leg_text ls ++ codes "\n"

-- the length of the round, and that of all streets together
abbrev pub length_line : ℕ → ℕ → List ℕ
length_line long all = codes "length " ++ (decimal long ++ (codes " of " ++ (decimal all ++ codes "\n")))

-- a crossing, if it is marked
abbrev pub mark_text : ℕ → Bool → List ℕ
mark_text v m = cond m (codes " " ++ decimal v) []

-- the crossings that are marked, counted from v
abbrev pub marks_text : ℕ → List Bool → List ℕ
marks_text v [] = []
marks_text v (m ∷ ms) = mark_text v m ++ marks_text (suc v) ms

-- a part from its weight and its marks
abbrev pub part_in : ℕ → List ℕ → Part
part_in weight xs = record { marks = marks_in xs; weight = weight }

-- a part: its weight and its crossings
abbrev pub part_line : Part → List ℕ
part_line p = codes "part " ++ (decimal p.weight ++ codes " at") ++ marks_text 0 p.marks ++ codes "\n"

abbrev pub planned_text : List Leg → ℕ → ℕ → List Part → List ℕ
planned_text ls long all ps = round_line ls ++ length_line long all ++ flat_map part_line ps
