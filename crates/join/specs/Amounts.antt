-- Numbers of half metres, as the code holds them: signed, and not negative. Assumes nothing: these are definitions.
use Rattle.std.specs.Prelude.{◌≡◌, ℕ, ◌≤◌, Bool, false, List, [], length, ℤ, pos, negsuc, ◌+ℤ◌, slice_index_or}
use Rattle.road.specs.Roads.{pick}
use Rattle.road.specs.Counts.{Set}
use Rattle.road.specs.Model.{marked}

-- a signed number as a natural one
abbrev pub amount : ℤ → ℕ
amount (pos n) = n
amount (negsuc n) = 0

abbrev pub number : List ℤ → ℕ → ℕ
number zs k = amount (slice_index_or zs k (pos 0))

-- none is negative
abbrev pub Whole : List ℤ → Type 0
Whole zs = (k : ℕ) → slice_index_or zs k (pos 0) ≡ pos (number zs k)

-- none is above a bound
abbrev pub Most : ℕ → List ℤ → Type 0
Most bound zs = (k : ℕ) → number zs k ≤ bound

-- n with a signed number added, which is not negative and not above m
abbrev pub moved : ℕ → ℤ → ℕ
moved n by = amount (pos n +ℤ by)

pub record Moves (m n : ℕ) (by : ℤ) : Type 0 where
  pub whole : pos n +ℤ by ≡ pos (moved n by)
  pub most : moved n by ≤ m

-- f, with a signed number added at the places of S
abbrev pub shifted : Set → ℤ → (ℕ → ℕ) → ℕ → ℕ
shifted S by f k = pick (S k) (moved (f k) by) (f k)

-- the set in a row
abbrev pub row : List (List Bool) → ℕ → Set
row rows u = marked (slice_index_or rows u [])

-- n rows, each the empty set
pub record AllEmpty (rows : List (List Bool)) (n : ℕ) : Type 0 where
  pub long : length rows ≡ n
  pub none : (u : ℕ) → row rows u ≡ (λ _. false)
