-- It is enough to look at single crossings: parities that add up over the crossings of a set. Assumes nothing.
use Rattle.std.proofs.Common.{◌≡◌, ℕ, zero, suc, ◌<◌, Bool, true, false, ◌&&◌, eqb, sym, ap, ◌∙◌, ap₂, arith}
use mathlib.Core.Bool.{and-false}
use Rattle.std.proofs.lemmas.Bool.Decides.{nat_tests}
use Rattle.road.specs.Roads.{Town}
use Rattle.road.specs.Counts.{◌⊕◌, par, size, one, two, Set, cut}
use Rattle.road.proofs.Parity.{and_xor}
use Rattle.road.proofs.Sums.{par_ext, par_xor, par_none, par_only}
use Rattle.join.specs.Joins.{single, out, Joins, once}
use Rattle.join.specs.Extra.{Inside}

-- what is known of all sets of crossings if it is known of the single ones
abbrev pub Linear : ℕ → (Set → Bool) → Type 0
Linear n F = (Z : Set) → F Z ≡ par n (λ v. Z v && F (single v))

-- membership and sums are so
pub linear_at : (n x : ℕ) → x < n → Linear n (λ Z. Z x)
linear_at n x h Z = sym (par_ext n (λ v. Z v && eqb x v) (λ v. eqb v x && Z v) (λ v _. grind (arith, nat_tests)) ∙ par_only n Z x h)

pub linear_xor : (n : ℕ) (F G : Set → Bool) → Linear n F → Linear n G → Linear n (λ Z. F Z ⊕ G Z)
linear_xor n F G p q Z = ap₂ (λ a b. a ⊕ b) (p Z) (q Z) ∙ sym (apart ∙ par_xor n (λ v. Z v && F (single v)) (λ v. Z v && G (single v)))
  where
    apart : par n (λ v. Z v && (F (single v) ⊕ G (single v))) ≡ par n (λ v. (Z v && F (single v)) ⊕ (Z v && G (single v)))
    apart = par_ext n _ _ (λ v _. and_xor (Z v) (F (single v)) (G (single v)))

-- and so are the constant false, and what is made of linear parities
linear_none : (n : ℕ) → Linear n (λ Z. false)
linear_none n Z = sym (par_none n (λ v. Z v && false) (λ v _. and-false (Z v)))

linear_and : (n : ℕ) (b : Bool) (F : Set → Bool) → Linear n F → Linear n (λ Z. b && F Z)
linear_and n true F h = h
linear_and n false F h = linear_none n

linear_par : (n m : ℕ) (g : ℕ → Set → Bool) → ((k : ℕ) → k < m → Linear n (g k)) → Linear n (λ Z. par m (λ k. g k Z))
unfolding par
linear_par n zero g h = linear_none n
linear_par n (suc m) g h = linear_xor n (g m) (λ Z. par m (λ k. g k Z)) (h m (omega arith)) (linear_par n m g (λ k i. h k (omega arith)))

-- how often a set of streets leads out is so
pub linear_out : (t : Town) (J : Set) → Inside t → Linear t.crossings (out t J)
unfolding out
linear_out t J h = linear_par n (size t) (λ k Z. J k && cut t Z k) at
  where
    n : ℕ
    n = t.crossings

    at : (k : ℕ) → k < size t → Linear n (λ Z. J k && cut t Z k)
    at k i =
        linear_and n (J k) (λ Z. cut t Z k)
        (linear_xor n (λ Z. Z (one t k)) (λ Z. Z (two t k)) (linear_at n (one t k) (h k i).0) (linear_at n (two t k) (h k i).1))

-- so is the parity of the streets of A once
pub linear_once : (t : Town) (A : Set) (r : ℕ) → Inside t → r < t.crossings → Linear t.crossings (once t A r)
linear_once t A r h hr = linear_xor t.crossings (out t A) (λ Z. Z r) (linear_out t A h) (linear_at t.crossings r hr)

-- linear parities that agree at the single crossings agree
pub linear_same : (n : ℕ) (F G : Set → Bool) → Linear n F → Linear n G → ((v : ℕ) → v < n → F (single v) ≡ G (single v)) → (Z : Set) → F Z ≡ G Z
linear_same n F G p q h Z = p Z ∙ par_ext n _ _ (λ v i. ap (λ z. Z v && z) (h v i)) ∙ sym (q Z)

-- a set is a join if it is one at each single crossing
pub join_singles : (t : Town) (T : Set → Bool) → Linear t.crossings T → Inside t → (u : ℕ) → u < t.crossings → (J : Set) →
    ((v : ℕ) → v < t.crossings → out t J (single v) ≡ T (single v) ⊕ single v u) → Joins t T u J
join_singles t T lin inside u hu J h =
    linear_same t.crossings (out t J) (λ Z. T Z ⊕ Z u) (linear_out t J inside) (linear_xor t.crossings T (λ Z. Z u) lin (linear_at t.crossings u hu)) h
