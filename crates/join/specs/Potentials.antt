-- Potentials of crossings at a stage of a pass: what a set of extra drives for each may cost. Assumes nothing: these are definitions.
use Rattle.std.specs.Prelude.{◌≡◌, ℕ, ◌+◌, ◌-◌, ◌*◌, ◌/◌, ◌%◌, ◌<◌, ◌≤◌, Bool, true, not, ◌&&◌}
use Rattle.road.specs.Roads.{Town}
use Rattle.road.specs.Counts.{when, size, Set, cut, Side}
use Rattle.join.specs.Joins.{Joins, cost}
use Rattle.join.specs.Weights.{outer}

-- for each crossing of In a set that leads to it and costs no more than its potential; along a street potentials differ by no more than its
-- length, and they and the length together are even
pub record Potential (t : Town) (T : Set → Bool) (In : Set) (l g : ℕ → ℕ) (K : ℕ → Set) : Type 0 where
  pub ends : (k x y : ℕ) → k < size t → Side t k x y → In x ≡ true
  pub joins : (u : ℕ) → In u ≡ true → Joins t T u (K u)
  pub low : (u : ℕ) → In u ≡ true → cost t l (K u) ≤ g u
  pub near : (k x y : ℕ) → k < size t → Side t k x y → g y ≤ g x + l k
  pub even : (k x y : ℕ) → k < size t → Side t k x y → (g x + g y + l k) % 2 ≡ 0

-- a set for v that costs less than its potential
pub record Cheaper (t : Town) (T : Set → Bool) (In : Set) (l g : ℕ → ℕ) (v : ℕ) (J : Set) : Type 0 where
  pub met : In v ≡ true
  pub joins : Joins t T v J
  pub cheap : cost t l J < g v

-- the potentials, less e outside Z
abbrev pub lower : Set → Set → ℕ → (ℕ → ℕ) → ℕ → ℕ
lower In Z e g u = g u - when (In u && not (Z u)) e

-- b is a crossing of In whose potential is least
pub record Lowest (In : Set) (g : ℕ → ℕ) (b : ℕ) : Type 0 where
  pub met : In b ≡ true
  pub least : (u : ℕ) → In u ≡ true → g b ≤ g u

-- how much a cut street leaves to be charged
abbrev pub slack : Town → (l g : ℕ → ℕ) → ℕ → Set → ℕ → ℕ
slack t l g b Z k = (g (outer t Z k) + l k - g b) / 2

-- the cut street k leaves no more than any other of the first n
pub record Tightest (t : Town) (l g : ℕ → ℕ) (b : ℕ) (Z : Set) (n k : ℕ) : Type 0 where
  pub below : k < size t
  pub cuts : cut t Z k ≡ true
  pub least : (j : ℕ) → j < n → cut t Z j ≡ true → slack t l g b Z k ≤ slack t l g b Z j

-- a charge that a cut street leaves, and no more
abbrev pub Attained : Town → (l g : ℕ → ℕ) → ℕ → Set → ℕ → Type 0
Attained t l g b Z e = (k : ℕ) × (k < size t) × (cut t Z k ≡ true) × (g b + 2 * e ≡ g (outer t Z k) + l k)
