-- The first of several things that are wrong. Assumes nothing: these are definitions.
use Rattle.std.specs.Prelude.{◌≡◌, ℕ, zero, suc, Bool, not, Some, None, Ok, Err, Option, Result, nat_le}
use Rattle.road.specs.Roads.{pick}

-- the first place below n at which a test holds, n where there is none
unfoldable pub first : ℕ → (ℕ → Bool) → ℕ
first zero p = 0
first (suc n) p = pick (p 0) 0 (suc (first n (λ k. p (suc k))))

-- something is wrong, unless a rule is kept
abbrev pub unless : {B : Type 0} → Bool → B → Option B
unless kept wrong = pick kept None (Some wrong)

-- something is wrong at the first place below n that does not keep a rule
abbrev pub unless_all : {B : Type 0} → ℕ → (ℕ → Bool) → (ℕ → B) → Option B
unless_all n kept wrong = unless (nat_le n (first n (λ k. not (kept k)))) (wrong (first n (λ k. not (kept k))))

-- what is wrong first, or else what is wrong later
infixr 25 ◌then◌
abbrev pub ◌then◌ : {B : Type 0} → Option B → Option B → Option B
Some wrong then later = Some wrong
None then later = later

-- a result that is an error just if something is wrong, and then says it; and else a value of which P holds
abbrev pub Says : {A B E : Type 0} → (E → B) → Option B → (A → Type 0) → Result A E → Type 0
Says said wrong P (Ok a) = (wrong ≡ None) × P a
Says said wrong P (Err e) = wrong ≡ Some (said e)
