-- The exchange along a circuit at a stage. Assumes nothing: these are definitions.
use Rattle.std.specs.Prelude.{◌≡◌, ℕ, ◌+◌, ◌*◌, ◌<◌, ◌≤◌, Bool, true, not}
use Rattle.road.specs.Roads.{Town}
use Rattle.road.specs.Counts.{bit, Set}
use Rattle.road.specs.Model.{marked}
use Rattle.join.specs.declared.level.Level.{Level}
use Rattle.join.specs.declared.outcome.Outcome.{Outcome}
use Rattle.join.specs.declared.outcome.Outcome.TheVariants.{Lower, Fewer}
use Rattle.join.specs.declared.partition.Classes.{Classes}
use Rattle.join.specs.declared.prices.Prices.{Prices}
use Rattle.join.specs.declared.turn.Stage.{Stage}
use Rattle.join.specs.Joins.{◌⊞◌, Joins, at, cost, outs, Zero}
use Rattle.join.specs.Exchange as exchange
use Rattle.join.specs.Amounts.{amount}
use Rattle.join.specs.Problems.{town_in, start_in}
use Rattle.join.specs.Prices.{extra_in}
use Rattle.join.specs.Classes.{way_in}
use Rattle.join.specs.Turns.{lengths_at, potential_at}

-- the ways of a class: from b to each x of Z
abbrev pub Inner : Town → (ℕ → ℕ) → ℕ → Set → (ℕ → Set) → Type 0
Inner t l b Z way = (x : ℕ) → Z x ≡ true → Joins t (at b) x (way b ⊞ way x) × Zero t l (way b ⊞ way x)

-- a stage at which a class was charged, as it was before, with the ways of the class
pub record Held (q : Prices) (v : Level) (c : Classes) (s : Stage) : Type 0 where
  pub below : s.base < 100
  pub base : marked s.marks s.base ≡ true
  pub stage : exchange.Stage (town_in q.problem) (start_in q.problem) (lengths_at v) (potential_at v) s.base (marked s.marks) (amount s.charge) (extra_in q s.base)
  pub inside : Inner (town_in q.problem) (lengths_at v) s.base (marked s.marks) (way_in c)

-- a set for y is cheaper than its potential, or a set for v is cheaper by 2 * e, with two streets fewer out of Z
abbrev pub Exchanged : (t : Town) (T : Set → Bool) (l g : ℕ → ℕ) (Z : Set) (e v : ℕ) (J : Set) → ℕ → Outcome → Type 0
Exchanged t T l g Z e v J y (Lower drives) = Joins t T y (marked drives) × (cost t l (marked drives) < g y)
Exchanged t T l g Z e v J y (Fewer drives) =
    Joins t T v (marked drives) × (outs t Z (marked drives) + 2 ≡ outs t Z J) × (cost t l (marked drives) + 2 * e ≤ cost t l J)

-- a set for v that is cheaper than its potential, once it has no more streets out of Z than v asks for
pub record Over (t : Town) (T : Set → Bool) (In : Set) (l g : ℕ → ℕ) (Z : Set) (e v : ℕ) (J : Set) : Type 0 where
  pub met : In v ≡ true
  pub joins : Joins t T v J
  pub cheap : cost t l J + e * bit (not (Z v)) < g v + e * outs t Z J
