-- Sets of streets as lists of marks, and sums over them. Assumes nothing.
use Rattle.std.proofs.Common.{◌≡◌, ℕ, ◌+◌, ◌<◌, ◌≤◌, Bool, true, false, List, [], length, replicate, sym, ap, ◌∙◌, ⊎_elim, arith}
use Rattle.std.specs.Array.{IsFromFnResult}
use mathlib.Core.Path.{fun_ext}
use denote.Param.Members.{Mut, Called}
use Rattle.std.proofs.lemmas.List.{get_or_past, get_or-replicate, length-replicate}
use Rattle.std.proofs.lemmas.Bool.{cases_lt, cases_Bool, both_ways}
use Rattle.road.specs.Counts.{◌⊕◌, when, size, one, two, Set, cut}
use Rattle.road.specs.Model.{model, marked}
use Rattle.road.specs.Roads as roads
use Rattle.road.specs.declared.town.Town.{Town}
use Rattle.road.proofs.FromFn.{holds_each}
use Rattle.road.proofs.Models.{size_model, street_model, street_past}
use Rattle.road.proofs.Parity.{xor_self}
use Rattle.road.proofs.Sums.{sum_most}
use Rattle.join.specs.Joins.{cost, ◌⊞◌, single}
use Rattle.join.specs.Amounts.{AllEmpty}
use Rattle.join.proofs.Cost.{cost_drop, cost_more}

-- a list of marks is a set that it agrees with up to its end, and that has no more
pub marked_ext : (xs : List Bool) (J : Set) (n : ℕ) → length xs ≤ n → ((k : ℕ) → k < n → marked xs k ≡ J k) → ((k : ℕ) → n ≤ k → J k ≡ false) → marked xs ≡ J
marked_ext xs J n len low high = fun_ext (λ k. ⊎_elim (low k) (λ h. get_or_past xs k false (omega arith) ∙ sym (high k h)) (cases_lt k n))

-- so are the marks of `from_fn`
pub marks_each : {F : Type 0} {g : Mut F (ℕ × Unit {0}) Bool} {f : F} {xs : List Bool} {n : ℕ} (J : Set) → IsFromFnResult g f xs n →
    ((k : ℕ) (b : Bool) (q : F) → k < n → Called g f (k, tt) b q → (q ≡ f) × (b ≡ J k)) → ((k : ℕ) → n ≤ k → J k ≡ false) → marked xs ≡ J
marks_each J r pure high = marked_ext _ J _ (omega (arith, r.long)) (λ k h. holds_each J r pure k false h) high

-- past their ends two sets have no streets
pub none_past : (xs ys : List Bool) (k : ℕ) → length xs ≤ k → length ys ≤ k → marked xs k ⊕ marked ys k ≡ false
none_past xs ys k h i = rw (get_or_past xs k false h, get_or_past ys k false i)

-- what is marked has a place
pub marked_below : (xs : List Bool) (k : ℕ) → marked xs k ≡ true → k < length xs
marked_below xs k e = ⊎_elim (λ lt. lt) (λ le. absurd (both_ways (marked xs k) (get_or_past xs k false le) e)) (cases_lt k (length xs))

pub when_le : (b : Bool) (n m : ℕ) → n ≤ m → when b n ≤ m
when_le b n m h = grind arith

-- no set costs much, where no street does
pub cost_bound : (t : Town) (l : ℕ → ℕ) (J : Set) → ((k : ℕ) → l k ≤ 4000000000) → cost (model t) l J ≤ 1200000000000
unfolding cost
cost_bound t l J most =
    let s = sum_most (size (model t)) 4000000000 (λ k. when (J k) (l k)) (λ k i. when_le (J k) (l k) 4000000000 (most k)) in
    omega (arith, size_model t, t.few)

-- a set with one street put in, or taken out, costs no more than that street more
pub cost_near : (t : roads.Town) (l : ℕ → ℕ) (J : Set) (k : ℕ) → k < size t → cost t l (J ⊞ single k) ≤ cost t l J + l k
cost_near t l J k h = ⊎_elim (λ y. omega (arith, cost_drop t l J k h y)) (λ n. omega (arith, cost_more t l J k h n)) (cases_Bool (J k))

-- the ends of a street
pub ends_below : (t : Town) (k : ℕ) → (one (model t) k < 100) × (two (model t) k < 100)
ends_below t k = ⊎_elim
    (λ h. let e = street_model t k h in let w = t.within k h in (omega (arith, ap (λ s. s.one) e, w.0, t.most), omega (arith, ap (λ s. s.two) e, w.1, t.most)))
    (λ h. let e = street_past t k h in (omega (arith, ap (λ s. s.one) e), omega (arith, ap (λ s. s.two) e)))
    (cases_lt k t.count)

-- past the streets of a town nothing is cut
pub cut_past : (t : Town) (Z : Set) (k : ℕ) → t.count ≤ k → cut (model t) Z k ≡ false
cut_past t Z k h = ap (λ s. Z s.one ⊕ Z s.two) (street_past t k h) ∙ xor_self (Z 0)

-- no marks are the empty set
pub marked_none : (n : ℕ) → marked (replicate n false) ≡ (λ _. false)
marked_none n = fun_ext (λ k. ⊎_elim (get_or-replicate n k false false) (λ ge. get_or_past (replicate n false) k false (omega (arith, length-replicate n false))) (cases_lt k n))

-- rows of no marks
pub empty_rows : (m n : ℕ) → AllEmpty (replicate m (replicate n false)) m
empty_rows m n = record {
  long = length-replicate m (replicate n false);
  none = λ u. ⊎_elim
      (λ lt. ap marked (get_or-replicate m u (replicate n false) [] lt) ∙ marked_none n)
      (λ ge. ap marked (get_or_past (replicate m (replicate n false)) u [] (omega (arith, length-replicate m (replicate n false)))))
      (cases_lt u m);
}
