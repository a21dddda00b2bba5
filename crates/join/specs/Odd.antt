-- Crossings at which a set has an odd number of ends of streets. Assumes nothing: these are definitions.
use Rattle.std.specs.Prelude.{ℕ, ◌<◌, Bool, List, length, slice_index_or}
use Rattle.road.specs.declared.leg.Leg.{Leg}
use Rattle.road.specs.Roads.{Town, times}
use Rattle.road.specs.Counts.{bit, odd, sum, Set}
use Rattle.road.specs.Laws.{no_leg}
use Rattle.join.specs.Joins.{single, out}

abbrev pub odd_at : Town → Set → ℕ → Bool
odd_at t K v = out t K (single v)

-- how many crossings are odd
abbrev pub odds : Town → Set → ℕ
odds t K = sum t.crossings (λ v. bit (odd_at t K v))

-- the streets that legs drive an odd number of times
abbrev pub streets_of : List Leg → Set
streets_of ls = λ k. odd (times k ls)

-- the legs are of streets below 300
abbrev pub Low : List Leg → Type 0
Low ls = (i : ℕ) → i < length ls → (slice_index_or ls i no_leg).by < 300
