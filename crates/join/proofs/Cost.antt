-- What a set of streets costs, and how that changes with the set. Assumes nothing.
use Rattle.std.proofs.Common.{◌≡◌, ℕ, zero, suc, ◌+◌, ◌*◌, ◌<◌, ◌≤◌, Bool, true, false, ◌&&◌, eqb, ◌⊎◌, sym, refl, ap, ap₂, ◌∙◌, inl, inr, ⊎_elim, arith}
use Rattle.std.proofs.lemmas.Bool.{eq-eqb, ne_eqb, both_ways, cases_Bool}
use Rattle.road.specs.Roads.{Town, street}
use Rattle.road.specs.Counts.{◌⊕◌, when, bit, odd, size, Set, cut}
use Rattle.road.proofs.Parity.{xor_false, xor_assoc, odd_when, odd_bit}
use Rattle.road.proofs.Sums.{sum_ext, sum_add, sum_scale, sum_point, sum_none, sum_pos, par_ext, odd_sum}
use Rattle.join.specs.Joins.{◌⊞◌, single, out, cost, outs, Zero, shorter}
use Rattle.join.specs.Extra.{extra_length}

-- sets that differ in streets of no length only cost the same
pub cost_ext : (t : Town) (l : ℕ → ℕ) (J Q : Set) → ((k : ℕ) → k < size t → (l k ≡ 0) ⊎ (J k ≡ Q k)) → cost t l J ≡ cost t l Q
unfolding cost
cost_ext t l J Q h = sum_ext (size t) (λ k. when (J k) (l k)) (λ k. when (Q k) (l k)) (λ k i. let e = h k i in grind arith)

-- streets of no length change no cost
pub cost_zero : (t : Town) (l : ℕ → ℕ) (J Q : Set) → Zero t l Q → cost t l (J ⊞ Q) ≡ cost t l J
cost_zero t l J Q h = cost_ext t l (J ⊞ Q) J (λ k i. ⊎_elim (λ y. inl (h k i y)) (λ n. inr (ap (λ b. J k ⊕ b) n ∙ xor_false (J k))) (cases_Bool (Q k)))

-- where no street of a set has a length, it costs nothing
pub cost_none : (t : Town) (l : ℕ → ℕ) (J : Set) → Zero t l J → cost t l J ≡ 0
unfolding cost
cost_none t l J h = sum_none (size t) (λ k. when (J k) (l k)) (λ k i. let z = h k i in grind arith)

-- where streets cost twice their length, a set costs twice its length
pub cost_double : (t : Town) (J : Set) → cost t (λ k. 2 * (street t k).long) J ≡ 2 * extra_length t J
unfolding cost
cost_double t J =
    sum_ext (size t) (λ k. when (J k) (2 * (street t k).long)) (λ k. 2 * when (J k) (street t k).long) (λ k _. grind arith)
    ∙ sum_scale (size t) 2 (λ k. when (J k) (street t k).long)

-- another street is not touched
single_other : (J : Set) (k j : ℕ) → (k ≡ j → ⊥) → (J ⊞ single k) j ≡ J j
single_other J k j ne = ap (λ b. J j ⊕ b) (ne_eqb j k (λ q. ne (sym q))) ∙ xor_false (J j)

-- one street less, and one street more
pub cost_drop : (t : Town) (l : ℕ → ℕ) (J : Set) (k : ℕ) → k < size t → J k ≡ true → cost t l J ≡ cost t l (J ⊞ single k) + l k
unfolding cost
cost_drop t l J k h e =
    sum_point (size t) k (l k) (λ j. when (J j) (l j)) (λ j. when ((J ⊞ single k) j) (l j)) h
    (rw (e, eq-eqb k k refl) (omega arith)) (λ j _ ne. ap (λ b. when b (l j)) (sym (single_other J k j ne)))

pub cost_more : (t : Town) (l : ℕ → ℕ) (J : Set) (k : ℕ) → k < size t → J k ≡ false → cost t l (J ⊞ single k) ≡ cost t l J + l k
unfolding cost
cost_more t l J k h e =
    sum_point (size t) k (l k) (λ j. when ((J ⊞ single k) j) (l j)) (λ j. when (J j) (l j)) h
    (rw (e, eq-eqb k k refl) (omega arith)) (λ j _ ne. ap (λ b. when b (l j)) (single_other J k j ne))

-- what one set gains by a set of streets the other loses
pub cost_swap : (t : Town) (l : ℕ → ℕ) (J B C : Set) → ((k : ℕ) → k < size t → C k ≡ true → (l k ≡ 0) ⊎ (J k ⊕ B k ≡ true)) →
    cost t l (J ⊞ C) + cost t l (B ⊞ C) ≡ cost t l J + cost t l B
unfolding cost
cost_swap t l J B C h =
    sym (sum_add (size t) (λ j. when (J j ⊕ C j) (l j)) (λ j. when (B j ⊕ C j) (l j)))
    ∙ sum_ext (size t) (λ j. when (J j ⊕ C j) (l j) + when (B j ⊕ C j) (l j)) (λ j. when (J j) (l j) + when (B j) (l j))
    (λ j i. let s = h j i in grind (arith, s))
    ∙ sum_add (size t) (λ j. when (J j) (l j)) (λ j. when (B j) (l j))

-- where lengths go by a colouring, the parity of a cost does
pub cost_odd : (t : Town) (l : ℕ → ℕ) (p J : Set) → ((k : ℕ) → k < size t → odd (l k) ≡ cut t p k) → odd (cost t l J) ≡ out t J p
unfolding cost out
cost_odd t l p J h =
    odd_sum (size t) (λ k. when (J k) (l k))
    ∙ par_ext (size t) (λ k. odd (when (J k) (l k))) (λ k. J k && cut t p k) (λ k i. odd_when (J k) (l k) ∙ ap (λ z. J k && z) (h k i))

-- the parity of the number of streets that are cut
pub outs_odd : (t : Town) (Z J : Set) → odd (outs t Z J) ≡ out t J Z
outs_odd t Z J = cost_odd t (λ k. bit (cut t Z k)) Z J (λ k _. odd_bit (cut t Z k))

-- a number above a bit of its own parity is at least two
pub at_least_two : (z : Bool) (n : ℕ) → odd n ≡ z → bit z < n → 2 ≤ n
at_least_two true n q h = h
at_least_two false zero q h = absurd (omega arith)
at_least_two false (suc zero) q h = absurd (both_ways true q refl)
at_least_two false (suc (suc n)) q h = omega arith

-- where their number is not 0 there is one
pub some_out : (t : Town) (Z J : Set) → 0 < outs t Z J → (k : ℕ) × (k < size t) × (J k ≡ true) × (cut t Z k ≡ true)
unfolding cost
some_out t Z J h =
    let s = sum_pos (size t) (λ k. when (J k) (bit (cut t Z k))) h in
    let q : 0 < when (J s.0) (bit (cut t Z s.0)) = s.2 in
    (s.0, s.1, grind arith, grind arith)

-- where it is two or more there is another
pub two_out : (t : Town) (Z J : Set) → 2 ≤ outs t Z J → (k : ℕ) × (i : ℕ) × (k ≡ i → ⊥) × ((k < size t) × (J k ≡ true) × (cut t Z k ≡ true)) × ((i < size t) × (J i ≡ true) × (cut t Z i ≡ true))
two_out t Z J h =
    let p = some_out t Z J (omega arith) in
    let k = p.0 in
    let q = some_out t Z (J ⊞ single k) (omega (arith, cost_drop t (λ k. bit (cut t Z k)) J k p.1 p.2, ap bit p.3)) in
    let i = q.0 in
    let gone : (J ⊞ single k) k ≡ false = ap₂ (λ p q. p ⊕ q) p.2 (eq-eqb k k refl) in
    let ne = λ (e : k ≡ i). both_ways ((J ⊞ single k) k) gone (ap (J ⊞ single k) e ∙ q.2) in
    (k, i, ne, (p.1, p.2, p.3), (q.1, sym (single_other J k i ne) ∙ q.2, q.3))

-- two streets that are cut less
pub outs_two : (t : Town) (Z J C : Set) (a b : ℕ) → a < size t → b < size t → (a ≡ b → ⊥) → J a ≡ true → cut t Z a ≡ true → J b ≡ true → cut t Z b ≡ true →
    ((k : ℕ) → k < size t → cut t Z k ≡ true → C k ≡ eqb k a ⊕ eqb k b) → outs t Z (J ⊞ C) + 2 ≡ outs t Z J
outs_two t Z J C a b ha hb ne ja za jb zb h =
    let c = λ (k : ℕ). bit (cut t Z k) in
    let p = cost_drop t c J a ha ja in
    let q = cost_drop t c (J ⊞ single a) b hb (single_other J a b ne ∙ jb) in
    let r = cost_ext t c (J ⊞ C) ((J ⊞ single a) ⊞ single b) same in
    omega (arith, ap bit za, ap bit zb)
  where
    same : (k : ℕ) → k < size t → (bit (cut t Z k) ≡ 0) ⊎ ((J ⊞ C) k ≡ ((J ⊞ single a) ⊞ single b) k)
    same k i = ⊎_elim (λ y. inr (ap (λ x. J k ⊕ x) (h k i y) ∙ sym (xor_assoc (J k) (eqb k a) (eqb k b)))) (λ n. inl (ap bit n)) (cases_Bool (cut t Z k))

-- what a set costs less by these
pub cost_short : (t : Town) (l : ℕ → ℕ) (Z : Set) (e : ℕ) (J : Set) → ((k : ℕ) → k < size t → cut t Z k ≡ true → e ≤ l k) →
    cost t (shorter t Z e l) J + e * outs t Z J ≡ cost t l J
unfolding cost
cost_short t l Z e J h =
    let out_k = λ (k : ℕ). when (J k) (bit (cut t Z k)) in
    ap (λ n. cost t (shorter t Z e l) J + n) (sym (sum_scale (size t) e out_k))
    ∙ sym (sum_add (size t) (λ k. when (J k) (shorter t Z e l k)) (λ k. e * out_k k))
    ∙ sum_ext (size t) (λ k. when (J k) (shorter t Z e l k) + e * out_k k) (λ k. when (J k) (l k)) (λ k i. let le = h k i in grind arith)
