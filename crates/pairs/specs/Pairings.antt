-- Pairings of the odd crossings of a town. Assumes nothing: these are definitions.
use Rattle.std.specs.Prelude.{◌≡◌, ℕ, ◌+◌, ◌<◌, ◌≤◌, List, [], ◌∷◌, map}
use Rattle.road.specs.Roads.{Town, times, far}
use Rattle.road.specs.Counts.{bit, odd, Set, all}
use Rattle.join.specs.declared.least.LeastDrives.{LeastDrives}
use Rattle.join.specs.Extra.{extra_length}
use Rattle.join.specs.Odd.{odd_at}
use Rattle.join.specs.Laws.{depot_of, extra_of}
use Rattle.pairs.specs.declared.pair.Pair.{Pair}
use Rattle.pairs.specs.Walks.{Walk, walk_of, IsWalk, walk_ends, Each}

-- the extra drives to the depot
abbrev pub depot_extra : LeastDrives → Set
depot_extra s = extra_of s (depot_of s)

abbrev pub walks_of : List Pair → List Walk
walks_of ps = map walk_of ps

-- a number for each walk, added up
abbrev pub over : (Walk → ℕ) → List Walk → ℕ
over f [] = 0
over f (q ∷ qs) = f q + over f qs

-- how many ends of walks are at a crossing, how often they drive a street, and how far they are altogether
abbrev pub ends_at : ℕ → List Walk → ℕ
ends_at v qs = over (walk_ends v) qs

abbrev pub drives_of : ℕ → List Walk → ℕ
drives_of k qs = over (λ q. times k q.legs) qs

abbrev pub far_of : Town → List Walk → ℕ
far_of t qs = over (λ q. far t q.legs) qs

-- walks, by whatever legs, that have an odd number of ends at each odd crossing and an even number at every other
pub record Pairing (t : Town) (qs : List Walk) : Type 0 where
  pub drives : Each (IsWalk t) qs
  pub ends : (v : ℕ) → v < t.crossings → odd (ends_at v qs) ≡ odd_at t all v

-- no pairing is shorter altogether
abbrev pub NoShorter : Town → List Walk → Type 0
NoShorter t ps = (qs : List Walk) → Pairing t qs → far_of t ps ≤ far_of t qs

-- each odd crossing is an end of just one walk and no other crossing of any; no street is driven twice, and only those of J are;
-- the walks are as long together as J
pub record Paired (t : Town) (J : Set) (ps : List Walk) : Type 0 where
  pub drives : Each (IsWalk t) ps
  pub ends : (v : ℕ) → v < t.crossings → ends_at v ps ≡ bit (odd_at t all v)
  pub apart : (k : ℕ) → drives_of k ps ≤ bit (J k)
  pub together : far_of t ps ≡ extra_length t J
