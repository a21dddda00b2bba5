-- Lists, place by place. Assumes nothing.
use Rattle.std.proofs.Common.{◌≡◌, ℕ, ◌+◌, ◌<◌, ◌≤◌, List, [], ◌∷◌, ◌++◌, length, get_or, set, ℤ, pos, sym, refl, ap, ◌∙◌, subst, ⊎_elim, arith}
use mathlib.Core.Path.{fun_ext}
use Rattle.std.proofs.lemmas.List.{get_or-set_same, get_or-set_other, get_or_past, get_or_append_left, get_or_push}
use Rattle.std.proofs.lemmas.Bool.{cases_lt, cases_eq}
use Rattle.join.specs.Amounts.{amount, number, Whole}
use Rattle.join.specs.Written.{Upto}

-- a list that holds f k at each place k, where f has no more
module _ (zs : List ℤ) (f : ℕ → ℕ) (n : ℕ) (long : length zs ≡ n) (each : (k : ℕ) → k < n → get_or zs k (pos 0) ≡ pos (f k)) (past : (k : ℕ) → n ≤ k → f k ≡ 0) where
  at_each : (k : ℕ) → get_or zs k (pos 0) ≡ pos (f k)
  at_each k = ⊎_elim (each k) (λ le. get_or_past zs k (pos 0) (omega arith) ∙ ap pos (sym (past k le))) (cases_lt k n)

  pub number_each : number zs ≡ f
  number_each = fun_ext (λ k. ap amount (at_each k))

  pub whole_each : Whole zs
  whole_each k = at_each k ∙ ap (λ z. pos (amount z)) (sym (at_each k))

-- a place more is written
module _ (zs : List ℤ) (new old : ℕ → ℕ) (i : ℕ) (z : ℤ) (h : i < length zs) (e : z ≡ pos (new i)) where
  here : get_or (set zs i z) i (pos 0) ≡ pos (new i)
  here = get_or-set_same zs i z (pos 0) h ∙ e

  there : (k : ℕ) → (k ≡ i → ⊥) → get_or (set zs i z) k (pos 0) ≡ get_or zs k (pos 0)
  there k ne = get_or-set_other zs i k z (pos 0) ne

  pub upto_more : Upto zs new old i → Upto (set zs i z) new old (i + 1)
  upto_more p = record {
    whole = λ k. ⊎_elim (λ q. rw q (here ∙ ap (λ y. pos (amount y)) (sym here))) (λ ne. there k ne ∙ p.whole k ∙ ap (λ y. pos (amount y)) (sym (there k ne))) (cases_eq k i);
    done = λ k lt. ⊎_elim (λ q. rw q (ap amount here)) (λ ne. ap amount (there k ne) ∙ p.done k (omega arith)) (cases_eq k i);
    left = λ k le. ap amount (there k (λ q. omega arith)) ∙ p.left k (omega arith);
  }

-- what holds of each, and of one more
pub each_push : {X : Type 0} (P : ℕ → X → Type 0) (xs : List X) (x d : X) → ((i : ℕ) → i < length xs → P i (get_or xs i d)) → P (length xs) x →
    (i : ℕ) → i < length xs + 1 → P i (get_or (xs ++ x ∷ []) i d)
each_push P xs x d old new i h = ⊎_elim
    (λ q. rw q (subst (P (length xs)) (sym (get_or_push xs x d (length xs) refl)) new))
    (λ ne. let lt : i < length xs = omega arith in subst (P i) (sym (get_or_append_left xs (x ∷ []) d i lt)) (old i lt)) (cases_eq i (length xs))
