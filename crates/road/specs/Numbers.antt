-- Towns and legs as numbers. Assumes nothing: these are definitions.
use Rattle.std.specs.Prelude.{ℕ, zero, suc, ◌+◌, ◌*◌, ◌/◌, ◌%◌, List, [], ◌∷◌, map, length, drop, ◌==◌, slice_index}
use Rattle.road.specs.Roads.{Street, Town, Leg}
use Rattle.road.specs.Counts.{bit}

-- three numbers a street: its ends and its length
abbrev pub street_of : List ℕ → Street
street_of xs = record { one = slice_index xs 0; two = slice_index xs 1; long = slice_index xs 2 }

unfoldable pub streets_in : ℕ → List ℕ → List Street
streets_in zero xs = []
streets_in (suc n) xs = street_of xs ∷ streets_in n (drop 3 xs)

abbrev pub town_in : ℕ → List ℕ → Town
town_in crossings xs = record { crossings = crossings; streets = streets_in (length xs / 3) xs }

-- a leg is twice the street's number, and one more if it is driven back
abbrev pub leg_in : ℕ → Leg
leg_in x = record { by = x / 2; back = (x % 2 == 1) }

abbrev pub legs_in : List ℕ → List Leg
legs_in xs = map leg_in xs

-- the number of a leg
abbrev pub leg_number : Leg → ℕ
leg_number l = 2 * l.by + bit l.back
