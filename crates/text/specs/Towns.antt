-- The text of a town. Assumes nothing: these are definitions.
use Rattle.std.specs.Prelude.{ℕ, List, [], ◌∷◌, ◌++◌, codes, decimal}
use Rattle.std.specs.List.{flat_map}
use Rattle.road.specs.declared.street.Street.{Street}
use Rattle.road.specs.Roads.{Town}

abbrev pub crossings_line : ℕ → List ℕ
crossings_line n = codes "crossings " ++ (decimal n ++ codes "\n")

abbrev pub depot_line : ℕ → List ℕ
depot_line d = codes "depot " ++ (decimal d ++ codes "\n")

-- a street: its ends and its length
abbrev pub street_line : Street → List ℕ
street_line s = codes "street " ++ (decimal s.one ++ (codes " " ++ (decimal s.two ++ (codes " " ++ (decimal s.long ++ codes "\n")))))

-- a town and its depot
abbrev pub town_text : Town → ℕ → List ℕ
town_text t depot = crossings_line t.crossings ++ (depot_line depot ++ flat_map street_line t.streets)

-- the numbers of a street
abbrev pub street_numbers : Street → List ℕ
street_numbers s = s.one ∷ s.two ∷ s.long ∷ []
