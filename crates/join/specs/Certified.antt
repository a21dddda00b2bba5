-- Charged classes that show that sets of extra drives are least. Assumes nothing: these are definitions.
use Rattle.std.specs.Prelude.{◌≡◌, ℕ, ◌*◌, ◌<◌, ◌≤◌, true, not, List, [], ◌∷◌, length, take, pos, slice_index_or, refl}
use Rattle.road.specs.Roads.{pick, Town, street}
use Rattle.road.specs.Counts.{when, sum, size, Set, cut}
use Rattle.road.specs.Model.{marked}
use Rattle.sheet.specs.Sheet.{Part}
use Rattle.join.specs.declared.turn.Stage.{Stage}
use Rattle.join.specs.Joins.{out, Joins, once, cost}
use Rattle.join.specs.Amounts.{amount}

-- a stage is a class of crossings with what it is charged, in half metres; the class and the charge of stage i
abbrev pub no_stage : Stage
no_stage = record { marks = []; charge = pos 0; base = 0; whole = refl }

abbrev pub class_at : List Stage → ℕ → Set
class_at ss i = marked (slice_index_or ss i no_stage).marks

abbrev pub charge_at : List Stage → ℕ → ℕ
charge_at ss i = amount (slice_index_or ss i no_stage).charge

-- what the first n classes charge a street that leads out of them, and a crossing that is not in them
abbrev pub street_charge : Town → List Stage → ℕ → ℕ → ℕ
street_charge t ss n k = sum n (λ i. when (cut t (class_at ss i) k) (charge_at ss i))

abbrev pub crossing_charge : List Stage → ℕ → ℕ → ℕ
crossing_charge ss n u = sum n (λ i. when (not (class_at ss i u)) (charge_at ss i))

-- the set for each crossing of In leads there, where the streets of A are driven once from r
abbrev pub AllJoin : Town → (A : Set) → ℕ → (In : Set) → (ℕ → Set) → Type 0
AllJoin t A r In K = (u : ℕ) → In u ≡ true → Joins t (once t A r) u (K u)

-- and costs its price
abbrev pub AllPriced : Town → (c : ℕ → ℕ) → (In : Set) → (f : ℕ → ℕ) → (ℕ → Set) → Type 0
AllPriced t c In f K = (u : ℕ) → In u ≡ true → cost t c (K u) ≡ f u

-- out of each class lead an odd number of streets of A just if r is outside
abbrev pub AllOdd : Town → (A : Set) → ℕ → List Stage → Type 0
AllOdd t A r ss = (i : ℕ) → i < length ss → out t A (class_at ss i) ≡ not (class_at ss i r)

-- no street is charged more than its cost
abbrev pub AllBear : Town → (c : ℕ → ℕ) → List Stage → Type 0
AllBear t c ss = (k : ℕ) → k < size t → street_charge t ss (length ss) k ≤ c k

-- what the classes without a crossing are charged is its price
abbrev pub AllSum : (In : Set) → (f : ℕ → ℕ) → List Stage → Type 0
AllSum In f ss = (u : ℕ) → In u ≡ true → crossing_charge ss (length ss) u ≡ f u

-- each class is charged something
abbrev pub AllSome : List Stage → Type 0
AllSome ss = (i : ℕ) → i < length ss → 1 ≤ charge_at ss i

-- sets K of extra drives for the crossings of In, their prices f by the costs c, and classes that show that they are least
pub record Certified (t : Town) (A : Set) (c : ℕ → ℕ) (r : ℕ) (In : Set) (f : ℕ → ℕ) (K : ℕ → Set) (ss : List Stage) : Type 0 where
  pub joins : AllJoin t A r In K
  pub costs : AllPriced t c In f K
  pub odd : AllOdd t A r ss
  pub bears : AllBear t c ss
  pub sums : AllSum In f ss
  pub some : AllSome ss
  pub few : length ss ≤ 400

-- a street more costs twice its length
abbrev pub double : Town → ℕ → ℕ
double t k = 2 * (street t k).long

-- the sheet: the classes without the depot, as parts of n crossings
abbrev pub sheet_of : ℕ → ℕ → List Stage → List Part
sheet_of n depot [] = []
sheet_of n depot (s ∷ ss) =
    pick (marked s.marks depot) (sheet_of n depot ss) (record { marks = take n s.marks; weight = amount s.charge } ∷ sheet_of n depot ss)
