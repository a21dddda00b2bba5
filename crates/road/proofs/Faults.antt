-- What is wrong with legs as a drive, step by step. Assumes nothing.
use Rattle.std.proofs.Common.{◌≡◌, ℕ, ◌<◌, ◌≤◌, Bool, true, false, not, ◌||◌, eqb, leb, ◌↔◌, List, length, get_or, take, replicate, Some, None, Option, sym, refl, ap, ◌∙◌, subst, ap₂, ⊎_elim, arith}
use Rattle.std.proofs.lemmas.List.{get_or-replicate}
use Rattle.std.proofs.lemmas.Bool.{both_ways, ltb-true, ltb-false, lt-ltb, le-ltb, leb-true, leb-false, le-leb, lt-leb, eqb-true, eqb-false, eq-eqb, ne_eqb}
use Rattle.road.specs.declared.fault.Fault.{Fault}
use Rattle.road.specs.declared.fault.Fault.TheVariants.{Leg as AtLeg, Home, Street as LeftOut}
use Rattle.road.specs.Roads.{Town, Leg, Drive, times}
use Rattle.road.specs.Counts.{size, Set, all}
use Rattle.road.specs.First.{first, unless, ◌then◌}
use Rattle.road.specs.Faults.{begins, driven, end, drives, leg_fault, street_fault, fault, Driven}
use Rattle.road.specs.Model.{marked}
use Rattle.road.specs.Laws.{Begins, no_leg, FaultLeg, FaultHome, FaultStreet, FaultNone, FaultRound}
use Rattle.road.proofs.First.{Tests, tests_not, tests_all, tests_first, unless_some, unless_none, then_some, then_none, unless_all_ext}
use Rattle.road.proofs.Legs.{tests_begins, driven_drive, driven_stuck, drive_end, whole_drive, drive_whole, drive_stuck}

-- only the streets below the number of streets count
pub street_fault_ext : (t : Town) (must must' drives drives' : Set) → ((k : ℕ) → k < size t → must k ≡ must' k) → ((k : ℕ) → k < size t → drives k ≡ drives' k) →
    street_fault t must drives ≡ street_fault t must' drives'
street_fault_ext t must must' drives drives' e f =
    unless_all_ext (size t) (λ k. not (must k) || drives k) (λ k. not (must' k) || drives' k) LeftOut (λ k h. ap₂ (λ a b. not a || b) (e k h) (f k h))

-- a drive to where it should end has no fault but streets that are left out
pub fault_streets : (t : Town) (v w : ℕ) (must : Set) (ls : List Leg) (at : ℕ) (ms : List Bool) → leg_fault t v ls ≡ None → Driven t v ls at ms → at ≡ w →
    street_fault t must (marked ms) ≡ fault t v w must ls
fault_streets t v w must ls at ms whole d home =
    street_fault_ext t must must (marked ms) (drives ls) (λ k _. refl) (λ k h. d.marks k h)
    ∙ sym (ap₂ (λ (a b : Option Fault). a then (b then street_fault t must (drives ls))) whole (ap (λ z. unless z Home) (eq-eqb (end t v ls) w (d.there ∙ home))))

-- 300 marks are all streets
pub fault_all : (t : Town) (v w : ℕ) (ms : List Bool) (ls : List Leg) → size t ≤ 300 → ms ≡ replicate 300 true → fault t v w (marked ms) ls ≡ fault t v w all ls
fault_all t v w ms ls few e =
    ap (λ (a : Option Fault). leg_fault t v ls then (unless (eqb (end t v ls) w) Home then a))
    (street_fault_ext t (marked ms) all (drives ls) (drives ls) (λ k h. ap (λ z. marked z k) e ∙ get_or-replicate 300 k true _ (omega arith)) (λ k _. refl))

-- the kind and the place of a fault
kind : Fault → ℕ
kind (AtLeg i) = 0
kind Home = 1
kind (LeftOut k) = 2

place : Fault → ℕ
place (AtLeg i) = i
place Home = 0
place (LeftOut k) = k

-- a street keeps the rule if it is driven or need not be
tests_kept : (must drives : Bool) → Tests (not must || drives) (must ≡ true → drives ≡ true)
tests_kept true drives = (λ e _. e, λ f. f refl)
tests_kept false drives = (λ _ e. absurd (both_ways false refl e), λ _. refl)

breaks : (must drives : Bool) → ((not must || drives) ≡ false) ↔ ((must ≡ true) × (drives ≡ false))
breaks true drives = (λ e. (refl, e), λ r. r.1)
breaks false drives = (λ e. absurd (both_ways true e refl), λ r. absurd (both_ways false refl r.0))

tests_driven : (k : ℕ) (ls : List Leg) → Tests (drives ls k) (1 ≤ times k ls)
tests_driven k ls = (λ e. ltb-true 0 (times k ls) e, λ h. lt-ltb 0 (times k ls) h)

module _ (t : Town) (v w : ℕ) (must : Set) (ls : List Leg) where
  abbrev legs : Bool
  legs = leb (length ls) (driven t v ls)

  abbrev home : Bool
  home = eqb (end t v ls) w

  abbrev kept : ℕ → Bool
  kept k = not (must k) || drives ls k

  abbrev left : ℕ
  left = first (size t) (λ k. not (kept k))

  abbrev streets : Bool
  streets = leb (size t) left

  abbrev from_home : Option Fault
  from_home = unless home Home then street_fault t must (drives ls)

  -- what is known where the fault is not at a leg
  drive_home : legs ≡ true → Drive t v ls (end t v ls)
  drive_home e = whole_drive t v ls (leb-true (length ls) (driven t v ls) e)

  legs_true : (u : ℕ) → Drive t v ls u → legs ≡ true
  legs_true u d = le-leb (length ls) (driven t v ls) (omega (arith, drive_whole t v u ls d))

  drive_to : home ≡ true → Drive t v ls (end t v ls) → Drive t v ls w
  drive_to e d = subst (Drive t v ls) (eqb-true (end t v ls) w e) d

  home_true : Drive t v ls w → home ≡ true
  home_true d = eq-eqb (end t v ls) w (drive_end t d)

  -- a later fault has another kind
  after_leg : (f : Fault) → (kind f ≡ 0 → ⊥) → fault t v w must ls ≡ Some f → (legs ≡ true) × (from_home ≡ Some f)
  unfolding kind
  after_leg f ne e = ⊎_elim (λ p. absurd (ne (sym (ap kind p.1)))) (λ p. p) (then_some legs (AtLeg (driven t v ls)) f from_home e)

  after_home : (f : Fault) → (kind f ≡ 1 → ⊥) → from_home ≡ Some f → (home ≡ true) × (street_fault t must (drives ls) ≡ Some f)
  unfolding kind
  after_home f ne e = ⊎_elim (λ p. absurd (ne (sym (ap kind p.1)))) (λ p. p) (then_some home Home f (street_fault t must (drives ls)) e)

  at_street : (f : Fault) → street_fault t must (drives ls) ≡ Some f → (streets ≡ false) × (LeftOut left ≡ f)
  at_street f e = unless_some streets (LeftOut left) f e

  leg_if : (i : ℕ) → (fault t v w must ls ≡ Some (AtLeg i)) ↔ ((i < length ls) × ((u : ℕ) × Drive t v (take i ls) u × (Begins t u (get_or ls i no_leg) → ⊥)))
  unfolding kind place
  leg_if i = (λ e. ⊎_elim to (λ p. absurd (never p.1)) (then_some legs (AtLeg (driven t v ls)) (AtLeg i) from_home e), back)
    where
      never : from_home ≡ Some (AtLeg i) → ⊥
      never e =
          let p = after_home (AtLeg i) (λ q. omega arith) e in
          let z : ◌≡◌ {A = ℕ} 2 0 = ap kind (at_street (AtLeg i) p.1).1 in
          omega arith

      to : (legs ≡ false) × (AtLeg (driven t v ls) ≡ AtLeg i) → (i < length ls) × ((u : ℕ) × Drive t v (take i ls) u × (Begins t u (get_or ls i no_leg) → ⊥))
      to p =
          let low = leb-false (length ls) (driven t v ls) p.0 in
          let d = driven t v ls in
          let u = end t v (take d ls) in
          rw (← ap place p.1) (low, (u, driven_drive t v ls, (tests_not (begins t u (get_or ls d no_leg)) _ (tests_begins t u (get_or ls d no_leg))).0 (driven_stuck t v ls low)))

      back : (i < length ls) × ((u : ℕ) × Drive t v (take i ls) u × (Begins t u (get_or ls i no_leg) → ⊥)) → fault t v w must ls ≡ Some (AtLeg i)
      back r =
          let u = r.1.0 in
          let l = get_or ls i no_leg in
          let e = drive_stuck t v u ls i r.0 r.1.1 ((tests_not (begins t u l) (Begins t u l) (tests_begins t u l)).1 r.1.2) in
          ap₂ (λ b k. unless b (AtLeg k) then from_home) (lt-leb (length ls) (driven t v ls) (omega arith)) e

  home_if : (fault t v w must ls ≡ Some Home) ↔ ((u : ℕ) × Drive t v ls u × (u ≡ w → ⊥))
  unfolding kind
  home_if = (
    λ e. let p = after_leg Home (λ q. omega arith) e in ⊎_elim (to p.0) (λ q. absurd (never q.1)) (then_some home Home Home (street_fault t must (drives ls)) p.1),
    λ r. ap₂ (λ (a b : Bool). unless a (AtLeg (driven t v ls)) then (unless b Home then street_fault t must (drives ls))) (legs_true r.0 r.1)
        (ne_eqb (end t v ls) w (λ q. r.2 (sym (drive_end t r.1) ∙ q))),
  )
    where
      never : street_fault t must (drives ls) ≡ Some Home → ⊥
      never e = let z : ◌≡◌ {A = ℕ} 2 1 = ap kind (at_street Home e).1 in omega arith

      to : legs ≡ true → (home ≡ false) × (Home ≡ Home) → (u : ℕ) × Drive t v ls u × (u ≡ w → ⊥)
      to l p = (end t v ls, drive_home l, eqb-false (end t v ls) w p.0)

  street_if : (k : ℕ) → (fault t v w must ls ≡ Some (LeftOut k))
      ↔ (Drive t v ls w × (k < size t) × (must k ≡ true) × (times k ls ≡ 0) × ((j : ℕ) → j < k → must j ≡ true → 1 ≤ times j ls))
  unfolding kind place
  street_if k = (
    λ e.
        let p = after_leg (LeftOut k) (λ q. omega arith) e in
        let q = after_home (LeftOut k) (λ q. omega arith) p.1 in
        let r = at_street (LeftOut k) q.1 in
        let f = (tests_first (size t) kept k).0 (r.0, sym (ap place r.1)) in
        let b = (breaks (must k) (drives ls k)).0 f.1 in (
          drive_to q.0 (drive_home p.0),
          f.0,
          b.0,
          omega (arith, ltb-false 0 (times k ls) b.1),
          λ j h m. (tests_driven j ls).0 ((tests_kept (must j) (drives ls j)).0 (f.2 j h) m),
        ),
    λ r.
        let first_out = (tests_first (size t) kept k).1 (
          r.1,
          (breaks (must k) (drives ls k)).1 (r.2, le-ltb 0 (times k ls) (omega (arith, r.3))),
          λ j h. (tests_kept (must j) (drives ls j)).1 (λ m. (tests_driven j ls).1 (r.4 j h m)),
        ) in
        ap₂ (λ (a : Bool) (o : Option Fault). unless a (AtLeg (driven t v ls)) then o) (legs_true w r.0)
        (ap₂ (λ (b : Bool) (o : Option Fault). unless b Home then o) (home_true r.0)
        (ap₂ (λ (z : Bool) (j : ℕ). unless z (LeftOut j)) first_out.0 (sym first_out.1))),
  )

  none_if : (fault t v w must ls ≡ None) ↔ (Drive t v ls w × ((k : ℕ) → k < size t → must k ≡ true → 1 ≤ times k ls))
  none_if = (
    λ e.
        let p = (then_none (leg_fault t v ls) from_home).0 e in
        let q = (then_none (unless home Home) (street_fault t must (drives ls))).0 p.1 in
        let kept_all = (tests_all (size t) kept).0 ((unless_none streets (LeftOut left)).0 q.1) in (
          drive_to ((unless_none home Home).0 q.0) (drive_home ((unless_none legs (AtLeg (driven t v ls))).0 p.0)),
          λ k h m. (tests_driven k ls).0 ((tests_kept (must k) (drives ls k)).0 (kept_all k h) m),
        ),
    λ r. (then_none (leg_fault t v ls) from_home).1 (
      (unless_none legs (AtLeg (driven t v ls))).1 (legs_true w r.0),
      (then_none (unless home Home) (street_fault t must (drives ls))).1 (
        (unless_none home Home).1 (home_true r.0),
        (unless_none streets (LeftOut left)).1 ((tests_all (size t) kept).1 (λ k h. (tests_kept (must k) (drives ls k)).1 (λ m. (tests_driven k ls).1 (r.1 k h m)))),
      ),
    ),
  )

pub fault_leg : FaultLeg
fault_leg = leg_if

pub fault_home : FaultHome
fault_home = home_if

pub fault_street : FaultStreet
fault_street = street_if

pub fault_none : FaultNone
fault_none = none_if

pub fault_round : FaultRound
fault_round t depot ls = (
  λ e. let r = (none_if t depot depot all ls).0 e in record { drive = r.0; all = λ k h. r.1 k h refl },
  λ r. (none_if t depot depot all ls).1 (r.drive, λ k h _. r.all k h),
)
