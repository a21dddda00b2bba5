-- What one turn of a pass finds, and what it leaves. Assumes nothing: these are definitions.
use Rattle.std.specs.Prelude.{◌≡◌, ℕ, ◌+◌, ◌<◌, ◌≤◌, Bool, true, vec_items}
use Rattle.road.specs.Roads.{Town}
use Rattle.road.specs.Counts.{Set}
use Rattle.road.specs.Model.{marked}
use Rattle.join.specs.declared.level.Level.{Level}
use Rattle.join.specs.declared.partition.Classes.{Classes}
use Rattle.join.specs.declared.prices.Prices.{Prices}
use Rattle.join.specs.declared.turn.Turn.{Turn}
use Rattle.join.specs.declared.turn.Turn.TheVariants.{Better, Charge, Done}
use Rattle.join.specs.Joins.{Class, shorter}
use Rattle.join.specs.Exchange as exchange
use Rattle.join.specs.Amounts.{amount, number}
use Rattle.join.specs.Borders.{Bordered}
use Rattle.join.specs.Classes.{class_in, Classed, Merged, Kept}
use Rattle.join.specs.Progress.{Progress, charges_in}
use Rattle.join.specs.Problems.{town_in, start_in, reached_in}
use Rattle.join.specs.Prices.{extra_in}
use Rattle.join.specs.Potentials.{Potential, Cheaper, lower, Lowest, Attained}

-- the lengths and the potentials
abbrev pub lengths_at : Level → ℕ → ℕ
lengths_at v = number v.lengths

abbrev pub potential_at : Level → ℕ → ℕ
potential_at v = number v.potential

-- a stage of a pass: the potentials are potentials for the lengths, by the sets of extra drives
pub record Pass (q : Prices) (v : Level) : Type 0 where
  pub level : Potential (town_in q.problem) (start_in q.problem) (reached_in q.problem) (lengths_at v) (potential_at v) (extra_in q)

-- the class Z of b can be charged e, and no more
pub record Charged (t : Town) (T : Set → Bool) (In : Set) (l g : ℕ → ℕ) (K : ℕ → Set) (Z : Set) (e b : ℕ) : Type 0 where
  pub stage : exchange.Stage t T l g b Z e (K b)
  pub class : Class t l b Z
  pub lowest : Lowest In g b
  pub some : 1 ≤ e
  pub attained : Attained t l g b Z e

-- what a turn finds: a set that is cheaper, a class that can be charged, or that all potentials are 0
abbrev pub Finds : (t : Town) (T : Set → Bool) (In : Set) (l g : ℕ → ℕ) (K : ℕ → Set) → Turn → Type 0
Finds t T In l g K (Better f) = Cheaper t T In l g f.crossing (marked f.drives)
Finds t T In l g K (Charge s ls) = Charged t T In l g K (marked s.marks) (amount s.charge) s.base × (s.base < 100)
Finds t T In l g K Done = (u : ℕ) → In u ≡ true → g u ≡ 0

abbrev pub FindsAt : Prices → Level → Turn → Type 0
FindsAt q v r = Finds (town_in q.problem) (start_in q.problem) (reached_in q.problem) (lengths_at v) (potential_at v) (extra_in q) r

-- a class that is charged is that of its base, and its border is listed
abbrev pub Named : Town → Classes → Turn → Type 0
Named t c (Better f) = Unit {0}
Named t c (Charge s ls) = (marked s.marks ≡ class_in c s.base) × Bordered t (marked s.marks) (vec_items ls)
Named t c Done = Unit {0}

-- what it leaves of the lengths and potentials
abbrev pub Leaves : (t : Town) (In : Set) (l g l' g' : ℕ → ℕ) → Turn → Type 0
Leaves t In l g l' g' (Better f) = (l' ≡ l) × (g' ≡ g)
Leaves t In l g l' g' (Charge s ls) = (l' ≡ shorter t (marked s.marks) (amount s.charge) l) × (g' ≡ lower In (marked s.marks) (amount s.charge) g)
Leaves t In l g l' g' Done = (l' ≡ l) × (g' ≡ g)

-- potentials and lengths of a pass, with its classes: no street of no length leads from one to another
pub record Settled (q : Prices) (v : Level) (c : Classes) : Type 0 where
  pub pass : Pass q v
  pub classed : Classed (town_in q.problem) (lengths_at v) c
  pub merged : Merged (town_in q.problem) (lengths_at v) c q.problem.streets.town.now.count

-- a turn, from a level and its classes to those that it leaves
pub record Taken (q : Prices) (v : Level) (c : Classes) (r : Turn) (v' : Level) (c' : Classes) : Type 0 where
  pub settled : Settled q v' c'
  pub kept : Kept c c'
  pub finds : FindsAt q v r
  pub named : Named (town_in q.problem) c r
  pub progress : (n : ℕ) → Progress (town_in q.problem) (lengths_at v) (potential_at v) c n → Progress (town_in q.problem) (lengths_at v') (potential_at v') c' (n + charges_in r)
  pub leaves : Leaves (town_in q.problem) (reached_in q.problem) (lengths_at v) (potential_at v) (lengths_at v') (potential_at v') r
