-- A signed number added at the places of a set. Assumes nothing.
use Rattle.std.proofs.Common.{◌≡◌, ℕ, ◌+◌, ◌-◌, ◌<◌, ◌≤◌, List, length, get_or, set, Bool, true, false, eqb, ℤ, pos, ◌+ℤ◌, neg_ℤ, sym, refl, ap, ◌∙◌, ⊎_elim, arith}
use mathlib.Core.Path.{fun_ext}
use Rattle.std.proofs.lemmas.Int.{ints}
use Rattle.road.specs.Roads.{pick}
use Rattle.road.specs.Counts.{when, Set}
use Rattle.std.proofs.lemmas.List.{get_or-set_same, get_or-set_other}
use Rattle.std.proofs.lemmas.Bool.{cases_eq, eq-eqb, ne_eqb}
use Rattle.road.proofs.Parity.{xor_false}
use Rattle.join.specs.Joins.{◌⊞◌, single}
use Rattle.join.specs.Amounts.{amount, number, Whole, moved, Moves, shifted}

-- where the sum is a number, it is what is moved to
moved_is : (n r : ℕ) (by : ℤ) → pos n +ℤ by ≡ pos r → moved n by ≡ r
moved_is n r by e = ap amount e

pub moves_most : (m r n : ℕ) (by : ℤ) → m ≤ r → Moves m n by → Moves r n by
moves_most m r n by le s = record { whole = s.whole; most = omega (arith, s.most) }

-- less, and more
down : (n e : ℕ) (by : ℤ) → by ≡ neg_ℤ (pos e) → e ≤ n → pos n +ℤ by ≡ pos (n - e)
down n e by q h = omega (arith, ints)

up : (n e : ℕ) (by : ℤ) → by ≡ pos e → pos n +ℤ by ≡ pos (n + e)
up n e by q = omega (arith, ints)

module _ (S : Set) (by : ℤ) (f : ℕ → ℕ) where
  at : (k : ℕ) (r : ℕ → ℕ) → (S k ≡ true → moved (f k) by ≡ r (f k)) → (b : Bool) → S k ≡ b → pick b (moved (f k) by) (f k) ≡ pick b (r (f k)) (f k)
  at k r h true e = h e
  at k r h false e = refl

  pub shifted_down : (e : ℕ) → by ≡ neg_ℤ (pos e) → ((k : ℕ) → S k ≡ true → e ≤ f k) → shifted S by f ≡ (λ k. f k - when (S k) e)
  shifted_down e q h = fun_ext (λ k. at k (λ n. n - e) (λ s. moved_is (f k) (f k - e) by (down (f k) e by q (h k s))) (S k) refl ∙ less (S k) (f k))
    where
      less : (b : Bool) (n : ℕ) → pick b (n - e) n ≡ n - when b e
      less b n = grind arith

  pub shifted_up : (e : ℕ) → by ≡ pos e → shifted S by f ≡ (λ k. f k + when (S k) e)
  shifted_up e q = fun_ext (λ k. at k (λ n. n + e) (λ s. moved_is (f k) (f k + e) by (up (f k) e by q)) (S k) refl ∙ more (S k) (f k))
    where
      more : (b : Bool) (n : ℕ) → pick b (n + e) n ≡ n + when b e
      more b n = grind arith

  -- within a bound
  pub shifted_most : (m : ℕ) → ((k : ℕ) → f k ≤ m) → ((k : ℕ) → S k ≡ true → Moves m (f k) by) → (k : ℕ) → shifted S by f k ≤ m
  shifted_most m low h k = go (S k) refl
    where
      go : (b : Bool) → S k ≡ b → pick b (moved (f k) by) (f k) ≤ m
      go true e = (h k e).most
      go false e = low k

-- a place more
pub shifted_more : (S : Set) (i : ℕ) (by : ℤ) (f : ℕ → ℕ) → S i ≡ false → (k : ℕ) → shifted (S ⊞ single i) by f k ≡ pick (eqb k i) (moved (f i) by) (shifted S by f k)
shifted_more S i by f new k = ⊎_elim
    (λ e. rw e (rw (new, eq-eqb i i refl) refl))
    (λ ne. rw (ne_eqb k i ne) (ap (λ b. pick b (moved (f k) by) (f k)) (xor_false (S k)))) (cases_eq k i)

-- a place more is written
pub shift_more : (xs : List ℤ) (S : Set) (i : ℕ) (by : ℤ) (f : ℕ → ℕ) (z : ℤ) → i < length xs → Whole xs → number xs ≡ shifted S by f → S i ≡ false → z ≡ pos (moved (number xs i) by) →
    Whole (set xs i z) × (number (set xs i z) ≡ shifted (S ⊞ single i) by f)
shift_more xs S i by f z h whole is new e = (
  λ k. ⊎_elim (λ q. rw q (here ∙ e ∙ ap (λ y. pos (amount y)) (sym (here ∙ e)))) (λ ne. there k ne ∙ whole k ∙ ap (λ y. pos (amount y)) (sym (there k ne))) (cases_eq k i),
  fun_ext (λ k. ⊎_elim
      (λ q. rw q (ap amount (here ∙ e) ∙ ap (λ n. moved n by) (ap (λ g. g i) is ∙ ap (λ b. pick b (moved (f i) by) (f i)) new) ∙ ap (λ b. pick b (moved (f i) by) (shifted S by f i)) (sym (eq-eqb i i refl)) ∙ sym (shifted_more S i by f new i)))
      (λ ne. ap amount (there k ne) ∙ ap (λ g. g k) is ∙ ap (λ b. pick b (moved (f i) by) (shifted S by f k)) (sym (ne_eqb k i ne)) ∙ sym (shifted_more S i by f new k))
      (cases_eq k i)),
)
  where
    here : get_or (set xs i z) i (pos 0) ≡ z
    here = get_or-set_same xs i z (pos 0) h

    there : (k : ℕ) → (k ≡ i → ⊥) → get_or (set xs i z) k (pos 0) ≡ get_or xs k (pos 0)
    there k ne = get_or-set_other xs i k z (pos 0) ne
