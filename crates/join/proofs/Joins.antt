-- Joins: how they are put together, and the joins that streets and drives make. Assumes nothing.
use Rattle.std.proofs.Common.{◌≡◌, ℕ, ◌*◌, ◌%◌, ◌<◌, Bool, true, false, ◌&&◌, sym, refl, ap, ◌∙◌, ap₂, arith}
use Rattle.std.proofs.lemmas.Bool.{both_ways, false_from_ne_true}
use Rattle.road.specs.Roads.{Town}
use Rattle.road.specs.Counts.{bit, odd, ends, degree, ◌⊕◌, size, one, two, Set, cut, Side, forth, back}
use Rattle.road.proofs.Parity.{odd_add, odd_mul, odd_bit, odd_mod, xor_self, xor_same, xor_comm, xor_assoc, xor_cancel, xor_twice}
use Rattle.road.proofs.Sums.{odd_sum, par_ext, par_xor, par_none, par_only}
use Rattle.join.specs.Joins.{◌⊞◌, single, out, Joins, at, once}

-- an even number
pub odd_none : (n : ℕ) → n % 2 ≡ 0 → odd n ≡ false
odd_none n e = false_from_ne_true (odd n) (λ o. omega (arith, odd_mod n, ap bit o))

-- parities add up
pub out_xor : (t : Town) (J Q Z : Set) → out t (J ⊞ Q) Z ≡ out t J Z ⊕ out t Q Z
unfolding out
out_xor t J Q Z =
    par_ext (size t) (λ k. (J k ⊕ Q k) && cut t Z k) (λ k. (J k && cut t Z k) ⊕ (Q k && cut t Z k)) (λ k _. grind arith)
    ∙ par_xor (size t) (λ k. J k && cut t Z k) (λ k. Q k && cut t Z k)

-- only the streets below size t count
pub out_ext : (t : Town) (J Q Z : Set) → ((k : ℕ) → k < size t → J k ≡ Q k) → out t J Z ≡ out t Q Z
unfolding out
out_ext t J Q Z h = par_ext (size t) (λ k. J k && cut t Z k) (λ k. Q k && cut t Z k) (λ k i. ap (λ z. z && cut t Z k) (h k i))

-- a set with no cut street has an even number of them
pub out_none : (t : Town) (J Z : Set) → ((k : ℕ) → k < size t → cut t Z k ≡ true → J k ≡ false) → out t J Z ≡ false
unfolding out
out_none t J Z h = par_none (size t) (λ k. J k && cut t Z k) (λ k i. let n = h k i in grind arith)

-- a join goes on by a join
pub join_on : (t : Town) (T : Set → Bool) (u v : ℕ) (J Q : Set) → Joins t T u J → Joins t (at u) v Q → Joins t T v (J ⊞ Q)
join_on t T u v J Q hJ hQ Z =
    out_xor t J Q Z ∙ ap₂ (λ a b. a ⊕ b) (hJ Z) (hQ Z) ∙ xor_assoc (T Z) (Z u) (Z u ⊕ Z v) ∙ ap (λ x. T Z ⊕ x) (xor_cancel (Z u) (Z v))

-- what is in both goes
pub xor_meet : (a b c : Bool) → (a ⊕ b) ⊕ (a ⊕ c) ≡ b ⊕ c
xor_meet a b c = grind arith

-- two joins from one start lead from end to end
pub join_between : (t : Town) (T : Set → Bool) (u v : ℕ) (J K : Set) → Joins t T u J → Joins t T v K → Joins t (at u) v (J ⊞ K)
join_between t T u v J K hJ hK Z = out_xor t J K Z ∙ ap₂ (λ a b. a ⊕ b) (hJ Z) (hK Z) ∙ xor_meet (T Z) (Z u) (Z v)

-- a set of crossings that cuts no street of a join has both of its ends, or neither
pub join_uncut : (t : Town) (u v : ℕ) (Q Z : Set) → Joins t (at u) v Q → ((k : ℕ) → k < size t → Q k ≡ true → cut t Z k ≡ false) → Z u ≡ Z v
join_uncut t u v Q Z j none = xor_same (Z u) (Z v) (sym (j Z) ∙ out_none t Q Z (λ k h c. false_from_ne_true (Q k) (λ q. both_ways (cut t Z k) (none k h q) c)))

-- a join leads back
pub join_back : (t : Town) (u v : ℕ) (Q : Set) → Joins t (at u) v Q → Joins t (at v) u Q
join_back t u v Q h Z = h Z ∙ xor_comm (Z u) (Z v)

-- an even set leads from anywhere back to there
pub join_even : (t : Town) (b u : ℕ) (C : Set) → Joins t (at b) b C → Joins t (at u) u C
join_even t b u C h Z = h Z ∙ xor_self (Z b) ∙ sym (xor_self (Z u))

-- no street at all joins a crossing to itself
pub join_none : (t : Town) (v : ℕ) → Joins t (at v) v (λ _. false)
join_none t v Z = out_none t (λ _. false) Z (λ k _ _. refl) ∙ sym (xor_self (Z v))

-- a street joins its ends, either way
pub side_join : (t : Town) (k x y : ℕ) → k < size t → Side t k x y → Joins t (at x) y (single k)
unfolding out
side_join t k x y h forth Z = par_only (size t) (cut t Z) k h
side_join t k x y h back Z = par_only (size t) (cut t Z) k h ∙ xor_comm (Z (one t k)) (Z (two t k))

-- the streets of A once lead back to the start
pub join_once : (t : Town) (A : Set) (r : ℕ) → Joins t (once t A r) r A
join_once t A r Z = sym (xor_twice (out t A Z) (Z r))

-- the parity of a degree is the parity of the streets that the one crossing cuts
pub degree_odd : (t : Town) (c : ℕ → ℕ) (v : ℕ) → odd (degree t c v) ≡ out t (λ k. odd (c k)) (single v)
unfolding out
degree_odd t c v =
    odd_sum (size t) (λ k. c k * ends t k v)
    ∙ par_ext (size t) (λ k. odd (c k * ends t k v)) (λ k. odd (c k) && cut t (single v) k)
    (λ k _. odd_mul (c k) (ends t k v) ∙ ap (λ z. odd (c k) && z) (simp (odd_add, odd_bit)))
