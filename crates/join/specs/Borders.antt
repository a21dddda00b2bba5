-- The streets that a set of crossings cuts, as a list of legs. Assumes nothing: these are definitions.
use Rattle.std.specs.Prelude.{◌≡◌, ℕ, ◌<◌, true, not, ◌&&◌, nat_lt, List, [], ◌∷◌, ◌++◌, length, map, vec_items, slice_index_or, slice_set}
use Rattle.std.specs.Global.{Vec}
use Rattle.road.specs.declared.leg.Leg.{Leg}
use Rattle.road.specs.Roads.{Town}
use Rattle.road.specs.Counts.{size, one, Set, cut}
use Rattle.road.specs.Laws.{no_leg}
use Rattle.join.specs.Joins.{single}
use Rattle.join.specs.Odd.{streets_of}
use Rattle.join.specs.Weights.{inner}

abbrev pub street_at : List Leg → ℕ → ℕ
street_at ls i = (slice_index_or ls i no_leg).by

-- a leg leads out of Z
pub record LeadsOut (t : Town) (Z : Set) (l : Leg) : Type 0 where
  pub below : l.by < size t
  pub cuts : cut t Z l.by ≡ true
  pub back : l.back ≡ not (Z (one t l.by))

-- no street is in the list twice
abbrev pub Apart : List Leg → Type 0
Apart ls = (i j : ℕ) → i < j → j < length ls → street_at ls i ≡ street_at ls j → ⊥

-- a leg for each street that Z cuts, and for no other
pub record Bordered (t : Town) (Z : Set) (ls : List Leg) : Type 0 where
  pub each : (i : ℕ) → i < length ls → LeadsOut t Z (slice_index_or ls i no_leg)
  pub apart : Apart ls
  pub all : (k : ℕ) → streets_of ls k ≡ cut t Z k

-- so for the streets below n
pub record BorderedBelow (t : Town) (Z : Set) (n : ℕ) (ls : List Leg) : Type 0 where
  pub each : (i : ℕ) → i < length ls → LeadsOut t Z (slice_index_or ls i no_leg)
  pub below : (i : ℕ) → i < length ls → street_at ls i < n
  pub apart : Apart ls
  pub all : (k : ℕ) → streets_of ls k ≡ (nat_lt k n && cut t Z k)

-- so for the streets whose end in Z is below n
pub record BorderedFrom (t : Town) (Z : Set) (n : ℕ) (ls : List Leg) : Type 0 where
  pub each : (i : ℕ) → i < length ls → LeadsOut t Z (slice_index_or ls i no_leg)
  pub from : (i : ℕ) → i < length ls → inner t Z (street_at ls i) < n
  pub apart : Apart ls
  pub all : (k : ℕ) → streets_of ls k ≡ (nat_lt (inner t Z k) n && cut t Z k)

-- for each crossing below n the legs that lead out of it alone
pub record Stars (t : Town) (rows : List (Vec Leg)) (n : ℕ) : Type 0 where
  pub long : length rows ≡ n
  pub star : (v : ℕ) (ls : Vec Leg) → v < n → ls ≡ slice_index_or rows v ls → Bordered t (single v) (vec_items ls)

-- the legs in row v
abbrev pub legs_at : List (Vec Leg) → ℕ → List Leg
legs_at rows v = slice_index_or (map vec_items rows) v []

-- for each crossing below n those of them whose streets are below k
pub record StarsBelow (t : Town) (k : ℕ) (rows : List (Vec Leg)) (n : ℕ) : Type 0 where
  pub long : length rows ≡ n
  pub star : (v : ℕ) → v < n → BorderedBelow t (single v) k (legs_at rows v)

-- row v has a leg more, at its end
abbrev pub Pushed : List (Vec Leg) → ℕ → Leg → List (Vec Leg) → Type 0
Pushed rows v l rows' = map vec_items rows' ≡ slice_set (map vec_items rows) v (legs_at rows v ++ l ∷ [])
