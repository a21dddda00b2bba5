-- The least of some numbers. Assumes nothing.
use Rattle.std.proofs.Common.{◌≡◌, ℕ, ◌+◌, ◌<◌, ◌≤◌, Option, None, Some, MatchOption, ℤ, pos, sym, refl, subst, ⊎_elim, arith}
use Rattle.std.proofs.lemmas.Bool.{cases_eq}

-- the least of the first n numbers, if there is one
abbrev pub LeastOf : (ℕ → ℕ) → ℕ → Option ℤ → Type 0
LeastOf f n r = MatchOption r (n ≡ 0) (λ e. (i : ℕ) × (i < n) × (e ≡ pos (f i)) × ((j : ℕ) → j < n → f i ≤ f j))

-- one more that is no less
pub least_kept : (f : ℕ → ℕ) (n : ℕ) (e : ℤ) → LeastOf f n (Some e) → ((m : ℕ) → e ≡ pos m → m ≤ f n) → LeastOf f (n + 1) (Some e)
least_kept f n e l no_less = (l.0, omega (arith, l.1), l.2, λ j h. ⊎_elim (λ q. rw q (no_less (f l.0) l.2)) (λ ne. l.3 j (omega arith)) (cases_eq j n))

-- one more that is less
pub least_new : (f : ℕ → ℕ) (n : ℕ) (e : ℤ) → LeastOf f n (Some e) → ((m : ℕ) → e ≡ pos m → f n < m) → LeastOf f (n + 1) (Some (pos (f n)))
least_new f n e l less = (n, omega arith, refl, λ j h. ⊎_elim (λ q. rw q (omega arith)) (λ ne. omega (arith, less (f l.0) l.2, l.3 j (omega arith))) (cases_eq j n))

-- the first one
pub least_first : (f : ℕ → ℕ) (n : ℕ) → LeastOf f n None → LeastOf f (n + 1) (Some (pos (f n)))
least_first f n none = (n, omega arith, refl, λ j h. let e : j ≡ n = omega (arith, none) in subst (λ i. f n ≤ f i) (sym e) (omega arith))
