-- Where no potential is left, the stages of a pass show that all prices are least. Assumes nothing.
use Rattle.std.proofs.Common.{◌≡◌, ℕ, zero, suc, ◌+◌, ◌<◌, ◌≤◌, true, not, ◌&&◌, List, length, get_or, sym, ap, arith}
use Rattle.std.proofs.lemmas.Bool.{not-true}
use Rattle.road.specs.Counts.{when, sum, size, cut}
use Rattle.join.specs.declared.level.Level.{Level}
use Rattle.join.specs.declared.partition.Classes.{Classes}
use Rattle.join.specs.declared.prices.Prices.{Prices}
use Rattle.join.specs.declared.turn.Stage.{Stage}
use Rattle.join.specs.Problems.{town_in, costs_in, start_in, reached_in}
use Rattle.join.specs.Prices.{extra_in, price_in}
use Rattle.join.specs.Turns.{lengths_at, potential_at}
use Rattle.join.specs.Certified.{no_stage, class_at, charge_at, street_charge, crossing_charge}
use Rattle.join.specs.Passes.{lengths_after, potentials_after, AllStaged, Run, ShowsLeast}
use Rattle.join.proofs.Exchange.{border}
use Rattle.join.proofs.Progress.{progress_most}
use Rattle.join.proofs.Restoring.{back_at}
use Rattle.join.proofs.Descending.{lengths_low}

module _ (q : Prices) (c : Classes) (ss : List Stage) (staged : AllStaged q c ss (length ss)) where
  -- what stages leave of a length, and what they charge the street, are its cost
  lengths_sum : (n : ℕ) → n ≤ length ss → (k : ℕ) → k < size (town_in q.problem) → lengths_after (town_in q.problem) (costs_in q.problem) ss n k + street_charge (town_in q.problem) ss n k ≡ costs_in q.problem k
  unfolding lengths_after sum
  lengths_sum zero h k i = omega arith
  lengths_sum (suc n) h k i =
      let l = lengths_after (town_in q.problem) (costs_in q.problem) ss n in
      let r = lengths_sum n (omega arith) k i in
      let b = back_at (cut (town_in q.problem) (class_at ss n) k) (l k) (charge_at ss n) ((staged n (omega arith)).streets k i) in
      omega arith

  -- so for the potential of a crossing that can be come to, and its price
  potentials_sum : (n : ℕ) → n ≤ length ss → (u : ℕ) → reached_in q.problem u ≡ true → potentials_after (reached_in q.problem) (price_in q) ss n u + crossing_charge ss n u ≡ price_in q u
  unfolding potentials_after sum
  potentials_sum zero h u m = omega arith
  potentials_sum (suc n) h u m =
      let g = potentials_after (reached_in q.problem) (price_in q) ss n in
      let Z = class_at ss n in
      let r = potentials_sum n (omega arith) u m in
      let b = back_at (not (Z u)) (g u) (charge_at ss n) (λ o. (staged n (omega arith)).crossings u m (not-true (Z u) o)) in
      let e = ap (λ a. when (a && not (Z u)) (charge_at ss n)) m in
      omega arith

pub certify : (q : Prices) (c : Classes) (ss : List Stage) (v : Level) → Run q c ss v → ((u : ℕ) → reached_in q.problem u ≡ true → potential_at v u ≡ 0) → ShowsLeast q ss
certify q c ss v r none = record {
  certified = record {
    joins = q.joins;
    costs = λ u h. sym (q.costs u h);
    odd = λ i h.
        let s = r.staged i h in
        let b = border (town_in q.problem) (start_in q.problem) _ _ (get_or ss i no_stage).base (class_at ss i) (charge_at ss i) (extra_in q (get_or ss i no_stage).base) s.stage s.base in
        grind arith;
    bears = λ k h. omega (arith, lengths_sum q c ss r.staged (length ss) (omega arith) k h);
    sums = λ u h. omega (arith, potentials_sum q c ss r.staged (length ss) (omega arith) u h, ap (λ g. g u) r.after.crossings, none u h);
    some = λ i h. (r.staged i h).some;
    few = omega (arith, progress_most (town_in q.problem) (lengths_at v) (potential_at v) c (length ss) r.progress);
  };
  most = λ i h.
      let s = r.staged i h in
      let d = r.cuts i h in
      let k = d.0 in
      (k, d.1, omega (arith, s.streets k d.1 d.2, lengths_low (town_in q.problem) (costs_in q.problem) ss i k));
}
