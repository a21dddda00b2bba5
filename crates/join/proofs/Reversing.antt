-- Stages in the reverse order show the same. Assumes nothing.
use Rattle.std.proofs.Common.{◌≡◌, ℕ, zero, suc, ◌+◌, ◌-◌, ◌<◌, ◌≤◌, not, List, reverse, length, get_or, sym, refl, ap, ◌∙◌, subst, ap₂, arith}
use Rattle.std.proofs.lemmas.List.{length-reverse, get_or-reverse}
use Rattle.road.specs.Counts.{when, sum, size, cut}
use Rattle.road.specs.Model.{marked}
use Rattle.road.proofs.Sums.{sum_ext, sum_front}
use Rattle.join.specs.declared.prices.Prices.{Prices}
use Rattle.join.specs.declared.turn.Stage.{Stage}
use Rattle.join.specs.Joins.{out}
use Rattle.join.specs.Amounts.{amount}
use Rattle.join.specs.Problems.{town_in, costs_in}
use Rattle.join.specs.Certified.{no_stage}
use Rattle.join.specs.Passes.{ShowsLeast}

-- a sum from its end
sum_back : (n : ℕ) (f : ℕ → ℕ) → sum n (λ i. f (n - 1 - i)) ≡ sum n f
unfolding sum
sum_back zero f = refl
sum_back (suc n) f =
    ap₂ (λ a b. a + b) (ap f (omega arith))
    (sum_ext n (λ i. f (suc n - 1 - i)) (λ i. f (suc (n - 1 - i))) (λ i h. ap f (omega arith)) ∙ sum_back n (λ j. f (suc j)))
    ∙ sym (sum_front n f)

module _ (ss ss' : List Stage) (e : ss' ≡ reverse ss) where
  long : length ss' ≡ length ss
  long = ap length e ∙ length-reverse ss

  turned : (i : ℕ) → i < length ss → get_or ss' i no_stage ≡ get_or ss (length ss - 1 - i) no_stage
  turned i h = ap (λ zs. get_or zs i no_stage) e ∙ get_or-reverse ss i no_stage h

  -- what is added up over the stages
  over_back : (f : Stage → ℕ) → sum (length ss') (λ i. f (get_or ss' i no_stage)) ≡ sum (length ss) (λ i. f (get_or ss i no_stage))
  over_back f =
      ap (λ n. sum n (λ i. f (get_or ss' i no_stage))) long
      ∙ sum_ext (length ss) (λ i. f (get_or ss' i no_stage)) (λ i. f (get_or ss (length ss - 1 - i) no_stage)) (λ i h. ap f (turned i h))
      ∙ sum_back (length ss) (λ i. f (get_or ss i no_stage))

  -- what holds of each
  each_back : (P : Stage → Type 0) → ((i : ℕ) → i < length ss → P (get_or ss i no_stage)) → (i : ℕ) → i < length ss' → P (get_or ss' i no_stage)
  each_back P h i l =
      let j : i < length ss = omega (arith, long) in
      subst P (sym (turned i j)) (h (length ss - 1 - i) (omega arith))

  pub shows_back : (q : Prices) → ShowsLeast q ss → ShowsLeast q ss'
  shows_back q s =
      let t = town_in q.problem in
      let c = s.certified in
      let A = marked q.problem.required.now in
      let r = q.problem.streets.town.now.depot in
      record {
        certified = record {
          joins = c.joins;
          costs = c.costs;
          odd = each_back (λ z. out t A (marked z.marks) ≡ not (marked z.marks r)) c.odd;
          bears = λ k h. omega (arith, over_back (λ z. when (cut t (marked z.marks) k) (amount z.charge)), c.bears k h);
          sums = λ u h. over_back (λ z. when (not (marked z.marks u)) (amount z.charge)) ∙ c.sums u h;
          some = each_back (λ z. 1 ≤ amount z.charge) c.some;
          few = omega (arith, long, c.few);
        };
        most = each_back (λ z. (k : ℕ) × (k < size t) × (amount z.charge ≤ costs_in q.problem k)) s.most;
      }
