-- Certified prices are the least. Assumes nothing.
use Rattle.std.proofs.Common.{◌≡◌, ℕ, zero, suc, ◌+◌, ◌*◌, ◌<◌, ◌≤◌, Bool, true, false, not, List, length, sym, refl, ap, ◌∙◌, mul-suc, arith}
use Rattle.std.proofs.lemmas.Bool.{both_ways}
use Rattle.road.specs.Roads.{Town}
use Rattle.road.specs.Counts.{◌⊕◌, when, bit, odd, sum, size, Set, cut, all}
use Rattle.road.proofs.Sums.{sum_ext, sum_add, sum_scale, sum_le}
use Rattle.join.specs.declared.turn.Stage.{Stage}
use Rattle.join.specs.Joins.{out, Joins, once, cost, outs}
use Rattle.join.specs.Certified.{class_at, charge_at, street_charge, Certified}
use Rattle.join.specs.Laws.{PriceLeast}
use Rattle.join.proofs.Joins.{out_ext}
use Rattle.join.proofs.Cost.{cost_none, outs_odd}

-- a set costs no more where no street does
cost_le : (t : Town) (l m : ℕ → ℕ) (J : Set) → ((k : ℕ) → k < size t → l k ≤ m k) → cost t l J ≤ cost t m J
unfolding cost
cost_le t l m J h = sum_le (size t) (λ k. when (J k) (l k)) (λ k. when (J k) (m k)) (λ k i. let le = h k i in grind arith)

-- costs add up
cost_add : (t : Town) (l m : ℕ → ℕ) (J : Set) → cost t (λ k. l k + m k) J ≡ cost t l J + cost t m J
unfolding cost
cost_add t l m J =
    sum_ext (size t) (λ k. when (J k) (l k + m k)) (λ k. when (J k) (l k) + when (J k) (m k)) (λ k _. grind arith)
    ∙ sum_add (size t) (λ k. when (J k) (l k)) (λ k. when (J k) (m k))

-- what a class charges the streets of a set
cost_class : (t : Town) (Z : Set) (e : ℕ) (J : Set) → cost t (λ k. when (cut t Z k) e) J ≡ e * outs t Z J
unfolding cost
cost_class t Z e J =
    sum_ext (size t) (λ k. when (J k) (when (cut t Z k) e)) (λ k. e * when (J k) (bit (cut t Z k))) (λ k _. grind arith)
    ∙ sum_scale (size t) e (λ k. when (J k) (bit (cut t Z k)))

-- and what the first n classes do
charges : (t : Town) (ss : List Stage) (n : ℕ) (J : Set) → cost t (street_charge t ss n) J ≡ sum n (λ i. charge_at ss i * outs t (class_at ss i) J)
unfolding sum
charges t ss zero J = cost_none t (λ _. 0) J (λ _ _ _. refl)
charges t ss (suc n) J =
    cost_add t (λ k. when (cut t (class_at ss n) k) (charge_at ss n)) (street_charge t ss n) J
    ∙ ap (λ x. x + cost t (street_charge t ss n) J) (cost_class t (class_at ss n) (charge_at ss n) J)
    ∙ ap (λ x. charge_at ss n * outs t (class_at ss n) J + x) (charges t ss n J)

module _ (t : Town) (A : Set) (c : ℕ → ℕ) (r : ℕ) (In : Set) (f : ℕ → ℕ) (K : ℕ → Set) (ss : List Stage) (shown : Certified t A c r In f K ss) where
  -- a set that leads to u leads out of each class without u
  leads : (u : ℕ) (J : Set) → Joins t (once t A r) u J → (i : ℕ) → i < length ss → out t J (class_at ss i) ≡ not (class_at ss i u)
  leads u J j i h = let Z = class_at ss i in j Z ∙ ap (λ a. (a ⊕ Z r) ⊕ Z u) (shown.odd i h) ∙ grind arith

  -- so it costs as much as the class is charged
  pays : (u : ℕ) (J : Set) → Joins t (once t A r) u J → (i : ℕ) → i < length ss → when (not (class_at ss i u)) (charge_at ss i) ≤ charge_at ss i * outs t (class_at ss i) J
  pays u J j i h = at (not (class_at ss i u)) (outs t (class_at ss i) J) (charge_at ss i) (outs_odd t (class_at ss i) J ∙ leads u J j i h)
    where
      at : (b : Bool) (n e : ℕ) → odd n ≡ b → when b e ≤ e * n
      at true zero e q = absurd (both_ways false refl q)
      at true (suc n) e q = omega (arith, mul-suc e n)
      at false n e q = omega arith

  pub low : (u : ℕ) → In u ≡ true → (J : Set) → Joins t (once t A r) u J → f u ≤ cost t c J
  low u e J j =
      let n = length ss in
      let bears = cost_le t (street_charge t ss n) c J shown.bears in
      let paid = sum_le n (λ i. when (not (class_at ss i u)) (charge_at ss i)) (λ i. charge_at ss i * outs t (class_at ss i) J) (pays u J j) in
      omega (arith, charges t ss n J, shown.sums u e)

pub price_least : PriceLeast
price_least = low

-- where all streets have to be driven
pub certified_all : (t : Town) (A : Set) (c : ℕ → ℕ) (r : ℕ) (In : Set) (f : ℕ → ℕ) (K : ℕ → Set) (ss : List Stage) →
    ((k : ℕ) → k < size t → A k ≡ true) → Certified t A c r In f K ss → Certified t all c r In f K ss
certified_all t A c r In f K ss h s = record {
  joins = λ u e Z. s.joins u e Z ∙ ap (λ a. (a ⊕ Z r) ⊕ Z u) (same Z);
  costs = s.costs;
  odd = λ i l. sym (same (class_at ss i)) ∙ s.odd i l;
  bears = s.bears;
  sums = s.sums;
  some = s.some;
  few = s.few;
}
  where
    same : (Z : Set) → out t A Z ≡ out t all Z
    same Z = out_ext t A all Z h
