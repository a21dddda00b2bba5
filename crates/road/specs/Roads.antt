-- Crossings and streets, drives, and rounds that cover every street. Assumes nothing: these are definitions.
use Rattle.std.specs.Prelude.{◌≡◌, ℕ, ◌+◌, ◌<◌, ◌≤◌, Bool, true, false, List, [], ◌∷◌, length, ◌==◌, slice_index_or}
pub use Rattle.road.specs.declared.street.Street.{Street}
pub use Rattle.road.specs.declared.leg.Leg.{Leg}

-- a street has two ends, one and two, and a length; a leg goes by a street, from one to two or back: both are the structs of the code

-- one of two values, by a test
abbrev pub pick : {A : Type 0} → Bool → A → A → A
pick true a b = a
pick false a b = b

abbrev pub no_street : Street
no_street = record { one = 0; two = 0; long = 0 }

-- a town: how many crossings, and its streets; two streets may have the same ends
pub record Town : Type 0 where
  pub crossings : ℕ
  pub streets : List Street

unfoldable pub street : Town → ℕ → Street
street t k = slice_index_or t.streets k no_street

-- where a leg begins and where it ends: a street is driven from one to two, or back
unfoldable pub from : Town → Leg → ℕ
from t l = pick l.back (street t l.by).two (street t l.by).one

unfoldable pub into : Town → Leg → ℕ
into t l = pick l.back (street t l.by).one (street t l.by).two

-- a drive from a crossing to a crossing
pub data Drive (t : Town) : ℕ → List Leg → ℕ → Type 0 where
  stay : (v : ℕ) → Drive t v [] v
  go : (v w : ℕ) (l : Leg) (ls : List Leg) → l.by < length t.streets → from t l ≡ v → Drive t (into t l) ls w → Drive t v (l ∷ ls) w

-- how often a street is driven, and how far it is altogether
unfoldable pub times : ℕ → List Leg → ℕ
times k [] = 0
times k (l ∷ ls) = pick (l.by == k) 1 0 + times k ls

unfoldable pub far : Town → List Leg → ℕ
far t [] = 0
far t (l ∷ ls) = (street t l.by).long + far t ls

-- a round of the plough: out from the depot, over every street, and home
pub record Round (t : Town) (depot : ℕ) (ls : List Leg) : Type 0 where
  pub drive : Drive t depot ls depot
  pub all : (k : ℕ) → k < length t.streets → 1 ≤ times k ls

pub record Shortest (t : Town) (depot : ℕ) (ls : List Leg) : Type 0 where
  pub round : Round t depot ls
  pub least : (ms : List Leg) → Round t depot ms → far t ls ≤ far t ms

-- all streets together
unfoldable pub all_streets : List Street → ℕ
all_streets [] = 0
all_streets (s ∷ ss) = s.long + all_streets ss

-- every street can be come to from the depot
pub record Sound (t : Town) (depot : ℕ) : Type 0 where
  pub inside : (k : ℕ) → k < length t.streets → ((street t k).one < t.crossings) × ((street t k).two < t.crossings)
  pub home : depot < t.crossings
  pub joined : (k : ℕ) → k < length t.streets → (ls : List Leg) × Drive t depot ls (street t k).one
