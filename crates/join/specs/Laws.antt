-- Theorems about classes that show that sets of extra drives are least. Assumes nothing: these are definitions.
use Rattle.std.specs.Prelude.{◌≡◌, ℕ, ◌*◌, ◌<◌, ◌≤◌, true, ◌↔◌, List, length, vec_items, slice_index_or}
use Rattle.road.specs.Roads.{Town}
use Rattle.road.specs.Counts.{Set, all}
use Rattle.road.specs.Model.{model, marked}
use Rattle.road.specs.Laws.{Way}
use Rattle.sheet.specs.Sheet.{Part, no_part, Sheet, weights}
use Rattle.join.specs.declared.turn.Stage.{Stage}
use Rattle.join.specs.declared.least.LeastDrives.{LeastDrives}
use Rattle.join.specs.Drives.{drives_of, price_of}
use Rattle.join.specs.Joins.{Joins, once, cost}
use Rattle.join.specs.Extra.{Inside, extra_length}
use Rattle.join.specs.Certified.{Certified, double, sheet_of}

-- no set that leads to u costs less than f u
abbrev pub NoneCheaper : Town → (A : Set) → (c : ℕ → ℕ) → ℕ → (In : Set) → (f : ℕ → ℕ) → Type 0
NoneCheaper t A c r In f = (u : ℕ) → In u ≡ true → (J : Set) → Joins t (once t A r) u J → f u ≤ cost t c J

-- certified prices are least
abbrev pub PriceLeast : Type 0
PriceLeast =
    (t : Town) (A : Set) (c : ℕ → ℕ) (r : ℕ) (In : Set) (f : ℕ → ℕ) (K : ℕ → Set) (ss : List Stage) →
    Certified t A c r In f K ss → NoneCheaper t A c r In f

-- every part weighs something
abbrev pub Weighty : List Part → Type 0
Weighty ps = (i : ℕ) → i < length ps → 1 ≤ (slice_index_or ps i no_part).weight

-- where the streets cost twice their length, the classes without the depot are a sheet that weighs twice the length of the extra drives to the depot
abbrev pub SheetAgrees : Type 0
SheetAgrees =
    (t : Town) (r : ℕ) (In : Set) (f : ℕ → ℕ) (K : ℕ → Set) (ss : List Stage) →
    Inside t → Certified t all (double t) r In f K ss → In r ≡ true →
    Sheet t (sheet_of t.crossings r ss) × (weights (sheet_of t.crossings r ss) ≡ 2 * extra_length t (K r))
    × (length (sheet_of t.crossings r ss) ≤ length ss) × Weighty (sheet_of t.crossings r ss)

-- the town of least drives, its depot, their sets and prices, and the sheet of their classes
abbrev pub town_of : LeastDrives → Town
town_of s = model s.town.now.town

abbrev pub depot_of : LeastDrives → ℕ
depot_of s = s.town.now.town.depot

abbrev pub extra_of : LeastDrives → ℕ → Set
extra_of s = drives_of (vec_items s.extra)

abbrev pub prices_of : LeastDrives → ℕ → ℕ
prices_of s = price_of (vec_items s.extra)

abbrev pub sheet_from : LeastDrives → List Part
sheet_from s = sheet_of (town_of s).crossings (depot_of s) (vec_items s.stages)

-- what values of the type hold: sets and prices for the crossings that can be come to, and classes that show that they are least;
-- no set to such a crossing costs less than its price; and the classes without the depot are a sheet that weighs twice the length of the extra drives to the depot
pub record Shown (s : LeastDrives) : Type 0 where
  pub come : (u : ℕ) → (marked s.reached u ≡ true) ↔ Way (town_of s) (depot_of s) u
  pub certified : Certified (town_of s) all (double (town_of s)) (depot_of s) (marked s.reached) (prices_of s) (extra_of s) (vec_items s.stages)
  pub least : NoneCheaper (town_of s) all (double (town_of s)) (depot_of s) (marked s.reached) (prices_of s)
  pub sheet : Sheet (town_of s) (sheet_from s)
  pub agrees : weights (sheet_from s) ≡ 2 * extra_length (town_of s) (extra_of s (depot_of s))
  pub few : length (sheet_from s) ≤ 400
  pub some : Weighty (sheet_from s)
  pub small : (i : ℕ) → i < length (sheet_from s) → (slice_index_or (sheet_from s) i no_part).weight ≤ 10000000

abbrev pub LeastDrivesShow : Type 0
LeastDrivesShow = (s : LeastDrives) → Shown s
