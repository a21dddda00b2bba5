-- Sheets as numbers. Assumes nothing: these are definitions.
use Rattle.std.specs.Prelude.{◌≡◌, ℕ, zero, suc, ◌+◌, ◌/◌, ◌<◌, Bool, List, [], ◌∷◌, map, length, take, drop, nat_lt, slice_index, slice_index_or}
use Rattle.std.specs.List.{flat_map}
use Rattle.road.specs.Counts.{bit}
use Rattle.sheet.specs.Sheet.{Part, no_part}

-- a mark is 0 or not
abbrev pub marks_in : List ℕ → List Bool
marks_in xs = map (λ x. nat_lt 0 x) xs

-- a part is its weight and then a mark for each of n crossings
unfoldable pub parts_in : ℕ → ℕ → List ℕ → List Part
parts_in zero n xs = []
parts_in (suc k) n xs = record { marks = marks_in (take n (drop 1 xs)); weight = slice_index xs 0 } ∷ parts_in k n (drop (1 + n) xs)

abbrev pub sheet_in : ℕ → List ℕ → List Part
sheet_in n xs = parts_in (length xs / (1 + n)) n xs

-- the numbers of a part: its weight, and 0 or 1 for each crossing
abbrev pub part_numbers : Part → List ℕ
part_numbers p = p.weight ∷ map bit p.marks

-- a sheet is its parts, one after the other
abbrev pub sheet_numbers : List Part → List ℕ
sheet_numbers ps = flat_map part_numbers ps

-- each part has n marks
abbrev pub AllMarked : ℕ → List Part → Type 0
AllMarked n ps = (i : ℕ) → i < length ps → length (slice_index_or ps i no_part).marks ≡ n
