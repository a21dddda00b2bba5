-- The first place below a number that passes a test, and refusals there. Assumes nothing.
use Rattle.std.proofs.Common.{◌≡◌, ℕ, zero, suc, ◌<◌, ◌≤◌, Bool, true, false, not, ◌&&◌, leb, ◌⊎◌, ◌↔◌, is_some, Some, None, Ok, Err, Option, Result, MatchOption, unwrap_or, sym, refl, ap, ap₂, subst, ◌∙◌, inl, inr, ⊎_elim, arith}
use Rattle.std.proofs.lemmas.Bool.{cases_lt, both_ways, false≢true, le-leb, lt-leb, leb-true, leb-false, and_parts, and_from, not_from_true, not_from_false, not-true, not-false}
use Rattle.road.specs.Roads.{pick}
use Rattle.road.specs.First.{first, unless, unless_all, ◌then◌, Says}

-- no place before it passes
pub first_before : (n : ℕ) (p : ℕ → Bool) (j : ℕ) → j < first n p → p j ≡ false
unfolding first
first_before zero p j h = absurd (omega arith)
first_before (suc n) p j h = at (p 0) refl h (λ i. first_before n (λ k. p (suc k)) i)
  where
    later : (j : ℕ) → p 0 ≡ false → j < suc (first n (λ k. p (suc k))) → ((i : ℕ) → i < first n (λ k. p (suc k)) → p (suc i) ≡ false) → p j ≡ false
    later zero e h r = e
    later (suc j) e h r = r j (omega arith)

    at : (b : Bool) → p 0 ≡ b → j < pick b 0 (suc (first n (λ k. p (suc k)))) → ((i : ℕ) → i < first n (λ k. p (suc k)) → p (suc i) ≡ false) → p j ≡ false
    at true e h r = absurd (omega arith)
    at false e h r = later j e h r

-- it passes, if it is one
pub first_passes : (n : ℕ) (p : ℕ → Bool) → first n p < n → p (first n p) ≡ true
unfolding first
first_passes zero p h = absurd (omega arith)
first_passes (suc n) p h = at (p 0) refl h (first_passes n (λ k. p (suc k)))
  where
    rest : ℕ
    rest = first n (λ k. p (suc k))

    at : (b : Bool) → p 0 ≡ b → pick b 0 (suc rest) < suc n → (rest < n → p (suc rest) ≡ true) → p (pick b 0 (suc rest)) ≡ true
    at true e h r = e
    at false e h r = r (omega arith)

pub first_most : (n : ℕ) (p : ℕ → Bool) → first n p ≤ n
unfolding first
first_most zero p = omega arith
first_most (suc n) p = at (p 0) (first_most n (λ k. p (suc k)))
  where
    at : (b : Bool) → first n (λ k. p (suc k)) ≤ n → pick b 0 (suc (first n (λ k. p (suc k)))) ≤ suc n
    at true h = omega arith
    at false h = omega arith

-- a place that passes, with none before it, is the first
pub first_is : (n : ℕ) (p : ℕ → Bool) (k : ℕ) → k < n → ((j : ℕ) → j < k → p j ≡ false) → p k ≡ true → first n p ≡ k
first_is n p k h before here =
    ⊎_elim (λ lt. absurd (both_ways (p (first n p)) (before (first n p) lt) (first_passes n p (omega arith))))
    (λ ge. ⊎_elim (λ gt. absurd (both_ways (p k) (first_before n p k gt) here)) (λ le. omega arith) (cases_lt k (first n p)))
    (cases_lt (first n p) k)

pub first_none : (n : ℕ) (p : ℕ → Bool) → ((j : ℕ) → j < n → p j ≡ false) → first n p ≡ n
first_none n p none =
    ⊎_elim (λ lt. absurd (both_ways (p (first n p)) (none (first n p) lt) (first_passes n p lt))) (λ ge. omega (arith, first_most n p)) (cases_lt (first n p) n)

module _ {B : Type 0} (n : ℕ) (kept : ℕ → Bool) (wrong : ℕ → B) where
  abbrev broken : ℕ → Bool
  broken k = not (kept k)

  abbrev place : ℕ
  place = first n broken

  -- nothing is wrong where every place keeps the rule
  pub all_kept : ((k : ℕ) → k < n → kept k ≡ true) → unless_all n kept wrong ≡ None
  all_kept all =
      let e = first_none n broken (λ k h. not_from_true (kept k) (all k h)) in
      ap (λ b. unless b (wrong place)) (le-leb n place (omega arith))

  -- a place is wrong that breaks the rule where those before it keep it
  pub first_broken : (k : ℕ) → k < n → ((j : ℕ) → j < k → kept j ≡ true) → kept k ≡ false → unless_all n kept wrong ≡ Some (wrong k)
  first_broken k h before here =
      let e = first_is n broken k h (λ j i. not_from_true (kept j) (before j i)) (not_from_false (kept k) here) in
      ap₂ (λ b p. unless b (wrong p)) (lt-leb n place (omega arith)) e

-- the first place below n that breaks a rule, or none
abbrev pub FirstBroken : ℕ → (ℕ → Bool) → Option ℕ → Type 0
FirstBroken n kept o = MatchOption o ((k : ℕ) → k < n → kept k ≡ true) (λ k. (k < n) × (kept k ≡ false) × ((j : ℕ) → j < k → kept j ≡ true))

-- an answer that is an error just if a place was found, with that place
pub says_found : {A B E : Type 0} (said : E → B) (n : ℕ) (kept : ℕ → Bool) (wrong : ℕ → B) (P : A → Type 0) (a : A) (made : ℕ → E) (o : Option ℕ) (r : Result A E) →
    FirstBroken n kept o → MatchOption o (r ≡ Ok a) (λ k. r ≡ Err (made k)) → ((k : ℕ) → said (made k) ≡ wrong k) → (((k : ℕ) → k < n → kept k ≡ true) → P a) →
    Says said (unless_all n kept wrong) P r
says_found {A} {B} {E} said n kept wrong P a made None r h e f g = subst (Says said (unless_all n kept wrong) P) (sym e) (all_kept n kept wrong h, g h)
says_found {A} {B} {E} said n kept wrong P a made (Some k) r h e f g =
    subst (Says said (unless_all n kept wrong) P) (sym e) (first_broken n kept wrong k h.0 h.2 h.1 ∙ ap Some (sym (f k)))

-- the same of another rule that says the same
pub broken_ext : (n m : ℕ) (p q : ℕ → Bool) (o : Option ℕ) → FirstBroken n p o → n ≡ m → ((k : ℕ) → k < m → q k ≡ p k) → FirstBroken m q o
broken_ext n m p q None h e f = λ k i. f k i ∙ h k (omega arith)
broken_ext n m p q (Some k) h e f = (omega arith, f k (omega arith) ∙ h.1, λ j i. f j (omega arith) ∙ h.2 j i)

-- tests that agree below n have the same first place
pub first_ext : (n : ℕ) (p q : ℕ → Bool) → ((k : ℕ) → k < n → p k ≡ q k) → first n p ≡ first n q
unfolding first
first_ext zero p q e = refl
first_ext (suc n) p q e = ap₂ (λ b m. pick b 0 (suc m)) (e 0 (omega arith)) (first_ext n (λ k. p (suc k)) (λ k. q (suc k)) (λ k h. e (suc k) (omega arith)))

pub unless_all_ext : {B : Type 0} (n : ℕ) (p q : ℕ → Bool) (wrong : ℕ → B) → ((k : ℕ) → k < n → p k ≡ q k) → unless_all n p wrong ≡ unless_all n q wrong
unless_all_ext n p q wrong e = ap (λ m. unless (leb n m) (wrong m)) (first_ext n (λ k. not (p k)) (λ k. not (q k)) (λ k h. ap not (e k h)))

-- a test and what it tests
abbrev pub Tests : Bool → Type 0 → Type 0
Tests b P = (b ≡ true) ↔ P

pub tests_not : (b : Bool) (P : Type 0) → Tests b P → (b ≡ false) ↔ (P → ⊥)
tests_not true P h = (λ e. absurd (both_ways true e refl), λ n. absurd (n (h.0 refl)))
tests_not false P h = (λ _ p. both_ways false refl (h.1 p), λ _. refl)

pub tests_and : (a b : Bool) (P Q : Type 0) → Tests a P → Tests b Q → Tests (a && b) (P × Q)
tests_and a b P Q p q = (λ e. let r = and_parts a b e in (p.0 r.0, q.0 r.1), λ r. and_from a b (p.1 r.0) (q.1 r.1))

module _ (n : ℕ) (kept : ℕ → Bool) where
  abbrev breaks : ℕ → Bool
  breaks k = not (kept k)

  -- the test whether all places keep a rule
  pub tests_all : Tests (leb n (first n breaks)) ((k : ℕ) → k < n → kept k ≡ true)
  tests_all = (
    λ e k h. not-false (kept k) (first_before n breaks k (omega (arith, leb-true n (first n breaks) e))),
    λ all. le-leb n (first n breaks) (omega (arith, first_none n breaks (λ k h. not_from_true (kept k) (all k h)))),
  )

  -- the first that does not
  pub tests_first : (k : ℕ) → ((leb n (first n breaks) ≡ false) × (k ≡ first n breaks)) ↔ ((k < n) × (kept k ≡ false) × ((j : ℕ) → j < k → kept j ≡ true))
  tests_first k = (
    λ p.
        let low = leb-false n (first n breaks) p.0 in
        (omega arith, rw p.1 (not-true (kept (first n breaks)) (first_passes n breaks low)), λ j h. not-false (kept j) (first_before n breaks j (omega arith))),
    λ p.
        let e = first_is n breaks k p.0 (λ j h. not_from_true (kept j) (p.2 j h)) (not_from_false (kept k) p.1) in
        (lt-leb n (first n breaks) (omega arith), sym e),
  )

-- what is wrong first, and what is wrong later
pub unless_some : {B : Type 0} (kept : Bool) (a w : B) → unless kept a ≡ Some w → (kept ≡ false) × (a ≡ w)
unless_some true a w e = absurd (false≢true (ap is_some e))
unless_some false a w e = (refl, ap (λ o. unwrap_or o a) e)

pub unless_none : {B : Type 0} (kept : Bool) (a : B) → (unless kept a ≡ None) ↔ (kept ≡ true)
unless_none true a = (λ _. refl, λ _. refl)
unless_none false a = (λ e. absurd (false≢true (sym (ap is_some e))), λ e. absurd (both_ways false refl e))

pub then_some : {B : Type 0} (kept : Bool) (a w : B) (rest : Option B) → unless kept a then rest ≡ Some w → ((kept ≡ false) × (a ≡ w)) ⊎ ((kept ≡ true) × (rest ≡ Some w))
then_some true a w rest e = inr (refl, e)
then_some false a w rest e = inl (unless_some false a w e)

pub then_none : {B : Type 0} (a b : Option B) → (a then b ≡ None) ↔ ((a ≡ None) × (b ≡ None))
then_none None b = (λ e. (refl, e), λ r. r.1)
then_none (Some w) b = (λ e. absurd (false≢true (sym (ap is_some e))), λ r. absurd (false≢true (sym (ap is_some r.0))))
