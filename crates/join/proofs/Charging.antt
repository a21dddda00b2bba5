-- What is left after a charge. Assumes nothing.
use Rattle.std.proofs.Common.{◌≡◌, ℕ, ◌<◌, ◌≤◌, true, false, List, sym, ap, ◌∙◌, arith}
use Rattle.road.specs.declared.leg.Leg.{Leg}
use Rattle.road.specs.Roads.{Town}
use Rattle.road.specs.Counts.{when, size, one, two, Set, cut}
use Rattle.join.specs.declared.level.Level.{Level}
use Rattle.join.specs.declared.partition.Classes.{Classes}
use Rattle.join.specs.declared.prices.Prices.{Prices}
use Rattle.join.specs.Joins.{shorter}
use Rattle.join.specs.Problems.{town_in, start_in, reached_in}
use Rattle.join.specs.Prices.{extra_in}
use Rattle.join.specs.Borders.{Bordered}
use Rattle.join.specs.Odd.{streets_of}
use Rattle.join.specs.Classes.{label_in, Classed, Merged}
use Rattle.join.specs.Potentials.{lower}
use Rattle.join.specs.Turns.{lengths_at, potential_at, Pass, Charged}
use Rattle.join.proofs.Stages as stages

module _ (q : Prices) (v : Level) (Z : Set) (e b : ℕ) (s : Pass q v)
    (c : Charged (town_in q.problem) (start_in q.problem) (reached_in q.problem) (lengths_at v) (potential_at v) (extra_in q) Z e b) where
  -- the charge can be taken off
  pub streets_bear : (k : ℕ) → k < size (town_in q.problem) → cut (town_in q.problem) Z k ≡ true → e ≤ lengths_at v k
  streets_bear = stages.room_long (town_in q.problem) (start_in q.problem) (reached_in q.problem) (lengths_at v) (potential_at v) (extra_in q) s.level b Z c.class c.lowest e c.stage.room

  pub crossings_bear : (u : ℕ) → reached_in q.problem u ≡ true → Z u ≡ false → e ≤ potential_at v u
  crossings_bear = stages.charge_fits (town_in q.problem) (start_in q.problem) (reached_in q.problem) (lengths_at v) (potential_at v) (extra_in q) s.level b Z c.class c.lowest e c.stage

  -- and what is left is as before
  pub pass_on : (v' : Level) → lengths_at v' ≡ shorter (town_in q.problem) Z e (lengths_at v) → potential_at v' ≡ lower (reached_in q.problem) Z e (potential_at v) → Pass q v'
  pass_on v' el eg = record {
    level = rw (el, eg)
        (stages.level_on (town_in q.problem) (start_in q.problem) (reached_in q.problem) (lengths_at v) (potential_at v) (extra_in q) s.level b Z c.class c.lowest e c.stage);
  }

-- ways over streets of no length stay so
pub classed_on : (t : Town) (l l' : ℕ → ℕ) (c : Classes) (Z : Set) (e : ℕ) → Classed t l c → l' ≡ shorter t Z e l → Classed t l' c
classed_on t l l' c Z e p el = record {
  leads = p.leads;
  zero = λ v h k i own. omega (arith, p.zero v h k i own, ap (λ f. f k) el);
}

-- where crossings are merged along all streets of no length before the charge, they are along all such streets but those of the border
pub merged_on : (t : Town) (l l' : ℕ → ℕ) (c : Classes) (Z : Set) (e n : ℕ) (ls : List Leg) → Merged t l c n → Bordered t Z ls → l' ≡ shorter t Z e l →
    (k : ℕ) → k < n → l' k ≡ 0 → streets_of ls k ≡ false → label_in c (one t k) ≡ label_in c (two t k)
merged_on t l l' c Z e n ls m b el k h z u = m k h (omega (arith, ap (λ f. f k) el, z, ap (λ x. when x e) (sym (b.all k) ∙ u)))
