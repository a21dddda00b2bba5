-- The stages of a pass: what they leave of lengths and potentials, and what is kept of each. Assumes nothing: these are definitions.
use Rattle.std.specs.Prelude.{◌≡◌, ℕ, zero, suc, ◌+◌, ◌<◌, ◌≤◌, true, false, not, ◌&&◌, List, length, Some, None, Option, slice_index_or, vec_items}
use Rattle.std.specs.Global.{Vec}
use Rattle.road.specs.declared.leg.Leg.{Leg}
use Rattle.road.specs.Roads.{Town}
use Rattle.road.specs.Counts.{when, size, Set, cut}
use Rattle.road.specs.Model.{marked}
use Rattle.join.specs.declared.level.Level.{Level}
use Rattle.join.specs.declared.partition.Classes.{Classes}
use Rattle.join.specs.declared.prices.Prices.{Prices}
use Rattle.join.specs.declared.turn.Found.{Found}
use Rattle.join.specs.declared.turn.Stage.{Stage}
use Rattle.join.specs.Joins.{shorter}
use Rattle.join.specs.Exchange as exchange
use Rattle.join.specs.Amounts.{amount}
use Rattle.join.specs.Problems.{town_in, costs_in, start_in, reached_in}
use Rattle.join.specs.Prices.{extra_in, price_in}
use Rattle.join.specs.Borders.{Bordered}
use Rattle.join.specs.Classes.{label_in, way_in}
use Rattle.join.specs.Potentials.{Cheaper, lower}
use Rattle.join.specs.Turns.{lengths_at, potential_at, Settled}
use Rattle.join.specs.Outcomes.{Inner}
use Rattle.join.specs.Progress.{Progress}
use Rattle.join.specs.Certified.{no_stage, class_at, charge_at, Certified}

-- lengths and potentials with a charge put back: on the streets that Z cuts, and outside Z
abbrev pub longer : Town → Set → ℕ → (ℕ → ℕ) → ℕ → ℕ
longer t Z e l k = l k + when (cut t Z k) e

abbrev pub higher : Set → Set → ℕ → (ℕ → ℕ) → ℕ → ℕ
higher In Z e g u = g u + when (In u && not (Z u)) e

-- what the first n stages leave of the costs and of the prices
unfoldable pub lengths_after : Town → (ℕ → ℕ) → List Stage → ℕ → ℕ → ℕ
lengths_after t c ss zero = c
lengths_after t c ss (suc n) = shorter t (class_at ss n) (charge_at ss n) (lengths_after t c ss n)

unfoldable pub potentials_after : Set → (ℕ → ℕ) → List Stage → ℕ → ℕ → ℕ
potentials_after In f ss zero = f
potentials_after In f ss (suc n) = lower In (class_at ss n) (charge_at ss n) (potentials_after In f ss n)

-- so at a level
pub record After (q : Prices) (ss : List Stage) (n : ℕ) (v : Level) : Type 0 where
  pub streets : lengths_at v ≡ lengths_after (town_in q.problem) (costs_in q.problem) ss n
  pub crossings : potential_at v ≡ potentials_after (reached_in q.problem) (price_in q) ss n

-- what is kept of a stage, with the lengths and the potentials before it: its class stays in one class, by the same ways, and the charge can be taken off
pub record Staged (q : Prices) (c : Classes) (l g : ℕ → ℕ) (s : Stage) : Type 0 where
  pub below : s.base < 100
  pub base : marked s.marks s.base ≡ true
  pub some : 1 ≤ amount s.charge
  pub stage : exchange.Stage (town_in q.problem) (start_in q.problem) l g s.base (marked s.marks) (amount s.charge) (extra_in q s.base)
  pub labels : (x : ℕ) → marked s.marks x ≡ true → (x < 100) × (label_in c x ≡ label_in c s.base)
  pub inside : Inner (town_in q.problem) l s.base (marked s.marks) (way_in c)
  pub streets : (k : ℕ) → k < size (town_in q.problem) → cut (town_in q.problem) (marked s.marks) k ≡ true → amount s.charge ≤ l k
  pub crossings : (u : ℕ) → reached_in q.problem u ≡ true → marked s.marks u ≡ false → amount s.charge ≤ g u

-- so for the first n
abbrev pub AllStaged : Prices → Classes → List Stage → ℕ → Type 0
AllStaged q c ss n =
    (i : ℕ) → i < n → Staged q c (lengths_after (town_in q.problem) (costs_in q.problem) ss i) (potentials_after (reached_in q.problem) (price_in q) ss i) (slice_index_or ss i no_stage)

-- out of the class of each stage leads a street
abbrev pub AllCut : Town → List Stage → Type 0
AllCut t ss = (i : ℕ) → i < length ss → (k : ℕ) × (k < size t) × (cut t (class_at ss i) k ≡ true)

-- the border of each class is listed
pub record Listed (t : Town) (ss : List Stage) (bs : List (Vec Leg)) : Type 0 where
  pub long : length bs ≡ length ss
  pub border : (i : ℕ) (ls : Vec Leg) → i < length ss → ls ≡ slice_index_or bs i ls → Bordered t (class_at ss i) (vec_items ls)

-- a pass at a level, with its classes and its stages so far
pub record Run (q : Prices) (c : Classes) (ss : List Stage) (v : Level) : Type 0 where
  pub settled : Settled q v c
  pub staged : AllStaged q c ss (length ss)
  pub cuts : AllCut (town_in q.problem) ss
  pub after : After q ss (length ss) v
  pub progress : Progress (town_in q.problem) (lengths_at v) (potential_at v) c (length ss)

-- it ends with a cheaper set, or where no potential is left
abbrev pub Ends : Prices → Level → Option Found → Type 0
Ends q v None = (u : ℕ) → reached_in q.problem u ≡ true → potential_at v u ≡ 0
Ends q v (Some f) = Cheaper (town_in q.problem) (start_in q.problem) (reached_in q.problem) (lengths_at v) (potential_at v) f.crossing (marked f.drives)

-- stages that show that prices are least, each charged no more than a street out of its class costs
pub record ShowsLeast (q : Prices) (ss : List Stage) : Type 0 where
  pub certified : Certified (town_in q.problem) (marked q.problem.required.now) (costs_in q.problem) q.problem.streets.town.now.depot (reached_in q.problem) (price_in q) (extra_in q) ss
  pub most : (i : ℕ) → i < length ss → (k : ℕ) × (k < size (town_in q.problem)) × (charge_at ss i ≤ costs_in q.problem k)
