-- A pass at its begin. Assumes nothing.
use Rattle.std.proofs.Common.{◌≡◌, ℕ, ◌+◌, ◌%◌, ◌<◌, ◌≤◌, true, false, List, [], length, get_or, ℤ, pos, vec_items, sym, refl, ap, ◌∙◌, subst, arith}
use Rattle.std.proofs.lemmas.List.{get_or_past}
use Rattle.std.proofs.lemmas.Bool.{both_ways}
use Rattle.road.specs.Roads as roads
use Rattle.road.specs.Counts.{bit, size, Set, Side, forth, back}
use Rattle.road.proofs.Cuts.{side_turn}
use Rattle.road.proofs.Models.{size_model}
use Rattle.road.proofs.Parity.{odd_mod}
use Rattle.join.specs.declared.level.Level.{Level}
use Rattle.join.specs.declared.partition.Classes.{Classes}
use Rattle.join.specs.declared.prices.Prices.{Prices}
use Rattle.join.specs.Joins.{at, cost, Zero}
use Rattle.join.specs.Amounts.{amount, number}
use Rattle.join.specs.Drives.{no_drives}
use Rattle.join.specs.Problems.{town_in, costs_in, start_in, reached_in}
use Rattle.join.specs.Prices.{extra_in, price_in, AllNear}
use Rattle.join.specs.Classes.{Classed, Alone}
use Rattle.join.specs.Potentials.{Potential}
use Rattle.join.specs.Turns.{lengths_at, potential_at, Pass, Settled}
use Rattle.join.specs.Progress.{Progress}
use Rattle.join.specs.Passes.{lengths_after, potentials_after, After, Run, Listed}
use Rattle.join.proofs.Joins.{odd_none, out_none, join_none}
use Rattle.join.proofs.Cost.{cost_odd}
use Rattle.join.proofs.Progress.{progress_start, labels_start}
use Rattle.join.proofs.Relaxing.{side_reached}
use Rattle.join.proofs.Writing.{number_each}

-- where all lengths are even, so is every cost
cost_even : (t : roads.Town) (l : ℕ → ℕ) (J : Set) → ((k : ℕ) → l k % 2 ≡ 0) → cost t l J % 2 ≡ 0
cost_even t l J even =
    odd_mod (cost t l J) ∙ ap bit (cost_odd t l (λ _. false) J (λ k _. odd_none (l k) (even k)) ∙ out_none t J (λ _. false) (λ k _ c. absurd (both_ways false refl c)))

module _ (q : Prices) where
  -- the price of an end of a street is even
  price_even : (u : ℕ) → reached_in q.problem u ≡ true → price_in q u % 2 ≡ 0
  price_even u h = ap (λ n. n % 2) (q.costs u h) ∙ cost_even (town_in q.problem) (costs_in q.problem) (extra_in q u) q.problem.even

  module _ (near : AllNear q q.problem.streets.town.now.count) where
    near_side : (k x y : ℕ) → k < size (town_in q.problem) → Side (town_in q.problem) k x y → price_in q y ≤ price_in q x + costs_in q.problem k
    near_side k x y h forth = near k false (omega (arith, size_model q.problem.streets.town.now))
    near_side k x y h back = near k true (omega (arith, size_model q.problem.streets.town.now))

    -- relaxed prices are potentials
    begin_potential : Potential (town_in q.problem) (start_in q.problem) (reached_in q.problem) (costs_in q.problem) (price_in q) (extra_in q)
    begin_potential = record {
      ends = side_reached q.problem;
      joins = q.joins;
      low = λ u h. omega (arith, q.costs u h);
      near = near_side;
      even = λ k x y h s. omega (arith, price_even x (side_reached q.problem k x y h s), price_even y (side_reached q.problem k y x h (side_turn _ k x y s)), q.problem.even k);
    }

    pub begin_pass : (v : Level) → lengths_at v ≡ costs_in q.problem → potential_at v ≡ price_in q → Pass q v
    begin_pass v el eg = record {
      level = rw (el, eg) begin_potential;
    }

pub begin_after : (q : Prices) (v : Level) → lengths_at v ≡ costs_in q.problem → potential_at v ≡ price_in q → After q [] 0 v
unfolding lengths_after potentials_after
begin_after q v el eg = record { streets = el; crossings = eg }

-- classes of one crossing are classes
pub alone_classed : (t : roads.Town) (l : ℕ → ℕ) (c : Classes) → Alone c → Classed t l c
alone_classed t l c a = record {
  leads = λ v h. rw (a.ways v, a.labels v h) (join_none t v);
  zero = λ v h. subst (Zero t l) (sym (a.ways v)) (λ k _ e. absurd (both_ways false refl e));
}

-- they are a beginning
pub alone_progress : (q : Prices) (v : Level) (c : Classes) → Alone c → Progress (town_in q.problem) (lengths_at v) (potential_at v) c 0
alone_progress q v c a = progress_start (town_in q.problem) (lengths_at v) (potential_at v) c (labels_start c a.labels)

-- so are merged ones
pub begin_run : (q : Prices) (v : Level) (c : Classes) → Settled q v c → After q [] 0 v → Progress (town_in q.problem) (lengths_at v) (potential_at v) c 0 → Run q c [] v
begin_run q v c s f p = record {
  settled = s;
  staged = λ i h. absurd (omega arith);
  cuts = λ i h. absurd (omega arith);
  after = f;
  progress = p;
}

pub listed_none : (t : roads.Town) → Listed t [] []
listed_none t = record { long = refl; border = λ i ls h. absurd (omega arith) }

-- the prices, as the code lists them
pub all_are : (q : Prices) (zs : List ℤ) → length zs ≡ 100 → ((u : ℕ) → u < 100 → get_or zs u (pos 0) ≡ pos (price_in q u)) → number zs ≡ price_in q
all_are q zs long at = number_each zs (price_in q) 100 long at (λ u h. ap (λ s. amount s.price) (get_or_past (vec_items q.extra) u no_drives (omega (arith, q.rows))))
