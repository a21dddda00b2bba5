-- Streets as three numbers each: their two ends and their length. Assumes nothing: these are definitions.
use Rattle.std.specs.Prelude.{◌≡◌, ℕ, ◌<◌, List, slice_index}
use Rattle.std.specs.List.{All}

-- the ends are two of so many crossings
abbrev pub Joins : ℕ → List ℕ → Type 0
Joins crossings s = (slice_index s 0 < crossings) × (slice_index s 1 < crossings)

abbrev pub long : List ℕ → ℕ
long s = slice_index s 2

-- streets between so many crossings, each of so many metres
abbrev pub AllJoin : ℕ → ℕ → List (List ℕ) → Type 0
AllJoin crossings metres ss = All (Joins crossings) ss × All (λ s. long s ≡ metres) ss
