-- What refusal 8 means. Assumes nothing.
use Rattle.std.proofs.Common.{◌≡◌, ℕ, ◌+◌, ◌*◌, ◌/◌, ◌%◌, ◌<◌, Bool, true, false, not, eqb, leb, ◌⊎◌, ◌↔◌, List, length, get_or, Some, None, Option, sym, ap, ◌∙◌, ap₂, inl, inr, ⊎_elim, div-add-mod', arith}
use native.Mathlib.Nat.{mul-mod_left}
use Rattle.std.proofs.lemmas.Bool.{leb-true, le-leb, eqb-true, eq-eqb}
use Rattle.road.specs.First.{first, unless, ◌then◌}
use Rattle.road.proofs.First.{Tests, tests_not, tests_all, tests_first, unless_some, unless_none, then_some, then_none}
use Rattle.sheet.specs.Words.{whole_refusal, count_refusal, weight_refusal, parts_refusal}
use Rattle.sheet.specs.Laws.{WholeRule, CountRule, WeightRule, PartsRefused, PartsTaken}

module _ (n : ℕ) (xs : List ℕ) where
  abbrev whole : Bool
  whole = eqb (length xs % (1 + n)) 0

  abbrev count : ℕ
  count = length xs / (1 + n)

  abbrev few : Bool
  few = leb count 400

  abbrev light_at : ℕ → Bool
  light_at i = leb (get_or xs (i * (1 + n)) 0) 10000000

  abbrev heavy : ℕ
  heavy = first count (λ i. not (light_at i))

  abbrev light : Bool
  light = leb count heavy

  tests_whole : Tests whole (WholeRule n xs)
  tests_whole = (
    λ e. (count, omega (arith, eqb-true (length xs % (1 + n)) 0 e, div-add-mod' (length xs) (1 + n))),
    λ r. eq-eqb (length xs % (1 + n)) 0 (ap (λ z. z % (1 + n)) r.1 ∙ mul-mod_left r.0 (1 + n)),
  )

  tests_count : Tests few (CountRule n xs)
  tests_count = (leb-true count 400, le-leb count 400)

  tests_weight : (i : ℕ) → Tests (light_at i) (WeightRule n xs i)
  tests_weight i = (leb-true (get_or xs (i * (1 + n)) 0) 10000000, le-leb (get_or xs (i * (1 + n)) 0) 10000000)

  tests_weights : Tests light ((i : ℕ) → i < count → WeightRule n xs i)
  tests_weights = (
    λ e i h. (tests_weight i).0 ((tests_all count light_at).0 e i h),
    λ all. (tests_all count light_at).1 (λ i h. (tests_weight i).1 (all i h)),
  )

  -- the place of a refusal
  place : (p q : ℕ) → ◌≡◌ {A = ℕ × ℕ} (8, p) (8, q) → q ≡ p
  place p q e = sym (ap (λ (w : ℕ × ℕ). w.1) e)

  abbrev Broken : ℕ → Type 0
  Broken p =
      ((WholeRule n xs → ⊥) × (p ≡ length xs))
      ⊎ ((WholeRule n xs × (CountRule n xs → ⊥) × (p ≡ count))
      ⊎ (WholeRule n xs × CountRule n xs × (p < count) × (WeightRule n xs p → ⊥) × ((j : ℕ) → j < p → WeightRule n xs j)))

  refused_if : (p : ℕ) → (parts_refusal n xs ≡ Some (8, p)) ↔ Broken p
  refused_if p = (λ e. ⊎_elim at_whole later (then_some whole (8, length xs) (8, p) (count_refusal n xs then weight_refusal n xs) e), back)
    where
      rule : (WholeRule n xs → ⊥) → whole ≡ false
      rule = (tests_not whole (WholeRule n xs) (tests_whole)).1

      at_whole : (whole ≡ false) × (◌≡◌ {A = ℕ × ℕ} (8, length xs) (8, p)) → Broken p
      at_whole q = inl ((tests_not whole (WholeRule n xs) tests_whole).0 q.0, place (length xs) p q.1)

      at_weight : whole ≡ true → (few ≡ true) × (weight_refusal n xs ≡ Some (8, p)) → Broken p
      at_weight w q =
          let r = unless_some light (8, heavy) (8, p) q.1 in
          let f = (tests_first count light_at p).0 (r.0, place heavy p r.1) in
          inr (inr (tests_whole.0 w, tests_count.0 q.0, f.0, (tests_not (light_at p) (WeightRule n xs p) (tests_weight p)).0 f.1, λ j h. (tests_weight j).0 (f.2 j h)))

      later : (whole ≡ true) × ((count_refusal n xs then weight_refusal n xs) ≡ Some (8, p)) → Broken p
      later q = ⊎_elim
          (λ r. inr (inl (tests_whole.0 q.0, (tests_not few (CountRule n xs) tests_count).0 r.0, place count p r.1)))
          (at_weight q.0)
          (then_some few (8, count) (8, p) (weight_refusal n xs) q.1)

      first_heavy : (p < count) × (WeightRule n xs p → ⊥) × ((j : ℕ) → j < p → WeightRule n xs j) → weight_refusal n xs ≡ Some (8, p)
      first_heavy r =
          let f = (tests_first count light_at p).1 (r.0, (tests_not (light_at p) (WeightRule n xs p) (tests_weight p)).1 r.1, λ j h. (tests_weight j).1 (r.2 j h)) in
          ap₂ (λ (b : Bool) (z : ℕ). unless {B = ℕ × ℕ} b (8, z)) f.0 (sym f.1)

      rest : Option (ℕ × ℕ)
      rest = count_refusal n xs then weight_refusal n xs

      back : Broken p → parts_refusal n xs ≡ Some (8, p)
      back (inl r) = ap₂ (λ (b : Bool) (z : ℕ). unless b (8, z) then rest) (rule r.0) (sym r.1)
      back (inr (inl r)) =
          ap₂ (λ (a : Bool) (o : Option (ℕ × ℕ)). unless a (8, length xs) then o) (tests_whole.1 r.0)
          (ap₂ (λ (b : Bool) (z : ℕ). unless b (8, z) then weight_refusal n xs) ((tests_not few (CountRule n xs) tests_count).1 r.1) (sym r.2))
      back (inr (inr r)) =
          ap₂ (λ (a : Bool) (o : Option (ℕ × ℕ)). unless a (8, length xs) then o) (tests_whole.1 r.0)
          (ap₂ (λ (b : Bool) (o : Option (ℕ × ℕ)). unless b (8, count) then o) (tests_count.1 r.1) (first_heavy (r.2, r.3, r.4)))

  taken_if : (parts_refusal n xs ≡ None) ↔ (WholeRule n xs × CountRule n xs × ((i : ℕ) → i < count → WeightRule n xs i))
  taken_if = (
    λ e.
        let r = (then_none (whole_refusal n xs) (count_refusal n xs then weight_refusal n xs)).0 e in
        let q = (then_none (count_refusal n xs) (weight_refusal n xs)).0 r.1 in
        (tests_whole.0 ((unless_none whole (8, length xs)).0 r.0), tests_count.0 ((unless_none few (8, count)).0 q.0), tests_weights.0 ((unless_none light (8, heavy)).0 q.1)),
    λ r. (then_none (whole_refusal n xs) (count_refusal n xs then weight_refusal n xs)).1 (
      (unless_none whole (8, length xs)).1 (tests_whole.1 r.0),
      (then_none (count_refusal n xs) (weight_refusal n xs)).1 ((unless_none few (8, count)).1 (tests_count.1 r.1), (unless_none light (8, heavy)).1 (tests_weights.1 r.2)),
    ),
  )

pub parts_refused : PartsRefused
parts_refused = refused_if

pub parts_taken : PartsTaken
parts_taken = taken_if
