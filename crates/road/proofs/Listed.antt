-- What each number of the list of refusals means. Assumes nothing.
use Rattle.std.proofs.Common.{◌≡◌, ℕ, ◌*◌, ◌/◌, ◌%◌, ◌<◌, ◌≤◌, Bool, true, false, not, ◌&&◌, eqb, ltb, leb, ◌↔◌, List, length, get_or, Some, None, Option, sym, refl, ap, subst, ap₂, arith}
use Rattle.std.proofs.lemmas.Bool.{both_ways, ltb-true, ltb-false, lt-ltb, le-ltb, leb-true, le-leb, eqb-true, eq-eqb}
use Rattle.road.specs.Roads.{Town, street}
use Rattle.road.specs.Counts.{size, one}
use Rattle.road.specs.Limits.{Within, within}
use Rattle.road.specs.Reach.{reached}
use Rattle.road.specs.Numbers.{town_in}
use Rattle.road.specs.First.{first, unless, ◌then◌}
use Rattle.road.specs.Refusals.{town_refusal, numbers_refusal, streets_refusal, depot_refusal, reach_refusal}
use Rattle.road.specs.Model.{model}
use Rattle.road.specs.Laws.{CrossingsRule, NumbersRule, StreetRule, StreetsRule, Limits, Way, NumbersRefused, StreetRefused, DepotRefused, UnreachedRefused, LegRefused, Taken, LetThrough, SoundTowns}
use Rattle.road.proofs.First.{Tests, tests_not, tests_and, tests_all, tests_first, unless_some, unless_none, then_none}
use Rattle.road.proofs.Limits.{within_true, true_within}
use Rattle.road.proofs.Models.{size_model, street_model}
use Rattle.road.proofs.Reached.{reached_way, drive_reached}

abbrev Refusal? : Type 0
Refusal? = Option (ℕ × ℕ)

-- a refusal by the number i has no other
number_is : (kept : Bool) (i p j q : ℕ) → unless {B = ℕ × ℕ} kept (i, p) ≡ Some (j, q) → i ≡ j
number_is kept i p j q e = ap (λ (w : ℕ × ℕ). w.0) (unless_some kept (i, p) (j, q) e).1

-- a later number is given just where the rule is kept
later : (kept : Bool) (i p : ℕ) (rest : Refusal?) (j q : ℕ) → (i ≡ j → ⊥) → (unless kept (i, p) then rest ≡ Some (j, q)) ↔ ((kept ≡ true) × (rest ≡ Some (j, q)))
later true i p rest j q ne = (λ e. (refl, e), λ r. r.1)
later false i p rest j q ne = (λ e. absurd (ne (number_is false i p j q e)), λ r. absurd (both_ways false refl r.0))

-- and the number itself just where it is broken
last : (kept : Bool) (i p q : ℕ) → (unless {B = ℕ × ℕ} kept (i, p) ≡ Some (i, q)) ↔ ((kept ≡ false) × (q ≡ p))
last kept i p q = (
  λ e. let r = unless_some kept (i, p) (i, q) e in (r.0, sym (ap (λ (w : ℕ × ℕ). w.1) r.1)),
  λ r. ap₂ (λ (b : Bool) (z : ℕ). unless {B = ℕ × ℕ} b (i, z)) r.0 (sym r.1),
)

here : (kept : Bool) (i p : ℕ) (rest : Refusal?) (q : ℕ) → (rest ≡ Some (i, q) → ⊥) → (unless kept (i, p) then rest ≡ Some (i, q)) ↔ ((kept ≡ false) × (q ≡ p))
here true i p rest q never = (λ e. absurd (never e), λ r. absurd (both_ways true r.0 refl))
here false i p rest q never = last false i p q

-- what the tests of the four rules say
tests_crossings : (n : ℕ) → Tests (leb 1 n && leb n 100) (CrossingsRule n)
tests_crossings n = tests_and (leb 1 n) (leb n 100) (1 ≤ n) (n ≤ 100) (leb-true 1 n, le-leb 1 n) (leb-true n 100, le-leb n 100)

tests_numbers : (xs : List ℕ) → Tests (eqb (length xs % 3) 0 && leb (length xs / 3) 300) (NumbersRule xs)
tests_numbers xs = (
  λ e. let r = t.0 e in (length xs / 3, omega (arith, r.0), r.1),
  λ r. t.1 (omega (arith, r.1), omega (arith, r.1, r.2)),
)
  where
    t : Tests (eqb (length xs % 3) 0 && leb (length xs / 3) 300) ((length xs % 3 ≡ 0) × (length xs / 3 ≤ 300))
    t = tests_and (eqb (length xs % 3) 0) (leb (length xs / 3) 300) (length xs % 3 ≡ 0) (length xs / 3 ≤ 300) (eqb-true (length xs % 3) 0, eq-eqb (length xs % 3) 0)
        (leb-true (length xs / 3) 300, le-leb (length xs / 3) 300)

tests_within : (n : ℕ) (xs : List ℕ) (k : ℕ) → Tests (within n (street (town_in n xs) k)) (StreetRule n xs k)
tests_within n xs k = (within_true n (street (town_in n xs) k), true_within n (street (town_in n xs) k))

tests_depot : (n depot : ℕ) → Tests (ltb depot n) (depot < n)
tests_depot n depot = (ltb-true depot n, lt-ltb depot n)

tests_way : (t : Town) (v w : ℕ) → Tests (reached t v w) (Way t v w)
tests_way t v w = (reached_way t v w, λ p. drive_reached t v w p.0 p.1)

module _ (n : ℕ) (xs : List ℕ) (depot : ℕ) where
  abbrev t : Town
  t = town_in n xs

  abbrev c1 : Bool
  c1 = leb 1 n && leb n 100

  abbrev c2 : Bool
  c2 = eqb (length xs % 3) 0 && leb (length xs / 3) 300

  abbrev kept : ℕ → Bool
  kept k = within n (street t k)

  abbrev place : ℕ
  place = first (size t) (λ k. not (kept k))

  abbrev c3 : Bool
  c3 = leb (size t) place

  abbrev c4 : Bool
  c4 = ltb depot n

  -- the refusals from the second, third and fourth on
  abbrev from_4 : Refusal?
  from_4 = depot_refusal n depot

  abbrev from_3 : Refusal?
  from_3 = streets_refusal t then from_4

  abbrev from_2 : Refusal?
  from_2 = numbers_refusal xs then from_3

  not_4 : (i q : ℕ) → (4 ≡ i → ⊥) → from_4 ≡ Some (i, q) → ⊥
  not_4 i q ne e = ne (number_is c4 4 depot i q e)

  not_3 : (i q : ℕ) → (3 ≡ i → ⊥) → (4 ≡ i → ⊥) → from_3 ≡ Some (i, q) → ⊥
  not_3 i q ne ne' e = not_4 i q ne' ((later c3 3 place from_4 i q ne).0 e).1

  tests_streets : Tests c3 (StreetsRule n xs)
  tests_streets = (
    λ e k h. (tests_within n xs k).0 ((tests_all (size t) kept).0 e k h),
    λ all. (tests_all (size t) kept).1 (λ k h. (tests_within n xs k).1 (all k h)),
  )

  crossings_at : (p : ℕ) → (town_refusal n xs depot ≡ Some (1, p)) ↔ ((CrossingsRule n → ⊥) × (p ≡ n))
  crossings_at p =
      let it = here c1 1 n from_2 p (λ e. not_3 1 p (λ q. omega arith) (λ q. omega arith) ((later c2 2 (length xs) from_3 1 p (λ q. omega arith)).0 e).1) in
      let rule = tests_not c1 (CrossingsRule n) (tests_crossings n) in
      (λ e. let r = it.0 e in (rule.0 r.0, r.1), λ r. it.1 (rule.1 r.0, r.1))

  numbers_at : (p : ℕ) → (town_refusal n xs depot ≡ Some (2, p)) ↔ (CrossingsRule n × (NumbersRule xs → ⊥) × (p ≡ length xs))
  numbers_at p =
      let a = later c1 1 n from_2 2 p (λ q. omega arith) in
      let it = here c2 2 (length xs) from_3 p (not_3 2 p (λ q. omega arith) (λ q. omega arith)) in
      let rule = tests_not c2 (NumbersRule xs) (tests_numbers xs) in (
        λ e. let r = a.0 e in let s = it.0 r.1 in ((tests_crossings n).0 r.0, rule.0 s.0, s.1),
        λ r. a.1 ((tests_crossings n).1 r.0, it.1 (rule.1 r.1, r.2)),
      )

  street_at : (k : ℕ) → (town_refusal n xs depot ≡ Some (3, k))
      ↔ (CrossingsRule n × NumbersRule xs × (k < size t) × (StreetRule n xs k → ⊥) × ((j : ℕ) → j < k → StreetRule n xs j))
  street_at k =
      let a = later c1 1 n from_2 3 k (λ q. omega arith) in
      let b = later c2 2 (length xs) from_3 3 k (λ q. omega arith) in
      let it = here c3 3 place from_4 k (not_4 3 k (λ q. omega arith)) in
      let at = tests_first (size t) kept k in
      let rule = tests_not (kept k) (StreetRule n xs k) (tests_within n xs k) in (
        λ e.
            let r = a.0 e in
            let s = b.0 r.1 in
            let f = at.0 (it.0 s.1) in
            ((tests_crossings n).0 r.0, (tests_numbers xs).0 s.0, f.0, rule.0 f.1, λ j h. (tests_within n xs j).0 (f.2 j h)),
        λ r. a.1 (
          (tests_crossings n).1 r.0,
          b.1 ((tests_numbers xs).1 r.1, it.1 (at.1 (r.2, rule.1 r.3, λ j h. (tests_within n xs j).1 (r.4 j h)))),
        ),
      )

  depot_at : (p : ℕ) → (town_refusal n xs depot ≡ Some (4, p)) ↔ (CrossingsRule n × NumbersRule xs × StreetsRule n xs × (depot < n → ⊥) × (p ≡ depot))
  depot_at p =
      let a = later c1 1 n from_2 4 p (λ q. omega arith) in
      let b = later c2 2 (length xs) from_3 4 p (λ q. omega arith) in
      let d = later c3 3 place from_4 4 p (λ q. omega arith) in
      let it = last c4 4 depot p in
      let rule = tests_not c4 (depot < n) (tests_depot n depot) in (
        λ e.
            let r = a.0 e in
            let s = b.0 r.1 in
            let u = d.0 s.1 in
            let f = it.0 u.1 in
            ((tests_crossings n).0 r.0, (tests_numbers xs).0 s.0, tests_streets.0 u.0, rule.0 f.0, f.1),
        λ r. a.1 (
          (tests_crossings n).1 r.0,
          b.1 ((tests_numbers xs).1 r.1, d.1 (tests_streets.1 r.2, it.1 (rule.1 r.3, r.4))),
        ),
      )

  taken_if : (town_refusal n xs depot ≡ None) ↔ Limits n xs depot
  taken_if = (
    λ e.
        let r = (then_none (unless c1 (1, n)) from_2).0 e in
        let s = (then_none (numbers_refusal xs) from_3).0 r.1 in
        let u = (then_none (streets_refusal t) from_4).0 s.1 in (
          (tests_crossings n).0 ((unless_none c1 (1, n)).0 r.0),
          (tests_numbers xs).0 ((unless_none c2 (2, length xs)).0 s.0),
          tests_streets.0 ((unless_none c3 (3, place)).0 u.0),
          (tests_depot n depot).0 ((unless_none c4 (4, depot)).0 u.1),
        ),
    λ r. (then_none (unless c1 (1, n)) from_2).1 (
      (unless_none c1 (1, n)).1 ((tests_crossings n).1 r.0),
      (then_none (numbers_refusal xs) from_3).1 (
        (unless_none c2 (2, length xs)).1 ((tests_numbers xs).1 r.1),
        (then_none (streets_refusal t) from_4).1 ((unless_none c3 (3, place)).1 (tests_streets.1 r.2), (unless_none c4 (4, depot)).1 ((tests_depot n depot).1 r.3)),
      ),
    ),
  )

pub numbers_refused : NumbersRefused
numbers_refused = numbers_at

pub street_refused : StreetRefused
street_refused = street_at

pub depot_refused : DepotRefused
depot_refused = depot_at

pub taken : Taken
taken = taken_if

pub unreached_refused : UnreachedRefused
unreached_refused t depot k =
    let kept : ℕ → Bool = λ k. reached t depot (one t k) in
    let it = last (leb (size t) (first (size t) (λ k. not (kept k)))) 5 (first (size t) (λ k. not (kept k))) k in
    let at = tests_first (size t) kept k in
    let rule = tests_not (kept k) (Way t depot (one t k)) (tests_way t depot (one t k)) in (
      λ e. let f = at.0 (it.0 e) in (f.0, rule.0 f.1, λ j h. (tests_way t depot (one t j)).0 (f.2 j h)),
      λ r. it.1 (at.1 (r.0, rule.1 r.1, λ j h. (tests_way t depot (one t j)).1 (r.2 j h))),
    )

-- every street can be come to just if none is refused
reach_if : (t : Town) (depot : ℕ) → (reach_refusal t depot ≡ None) ↔ ((k : ℕ) → k < size t → Way t depot (one t k))
reach_if t depot =
    let kept : ℕ → Bool = λ k. reached t depot (one t k) in
    let place = first (size t) (λ k. not (kept k)) in (
      λ e k h. (tests_way t depot (one t k)).0 ((tests_all (size t) kept).0 ((unless_none (leb (size t) place) (5, place)).0 e) k h),
      λ all. (unless_none (leb (size t) place) (5, place)).1 ((tests_all (size t) kept).1 (λ k h. (tests_way t depot (one t k)).1 (all k h))),
    )

pub let_through : LetThrough
let_through n xs depot =
    let t = town_in n xs in (
      λ e.
          let r = (then_none (town_refusal n xs depot) (reach_refusal t depot)).0 e in
          let l = (taken n xs depot).0 r.0 in
          (l, record { inside = λ k h. let w = l.2 k h in (w.0, w.1); home = l.3; joined = (reach_if t depot).0 r.1 }),
      λ r. (then_none (town_refusal n xs depot) (reach_refusal t depot)).1 ((taken n xs depot).1 r.0, (reach_if t depot).1 r.1.joined),
    )

pub sound_towns : SoundTowns
sound_towns s =
    let t = s.town in
    let size = size_model t in record {
      inside = λ k h. let e = street_model t k (omega arith) in let w = subst (Within t.crossings) (sym e) (t.within k (omega arith)) in (w.0, w.1);
      home = t.home;
      joined = λ k h. reached_way (model t) t.depot (one (model t) k) (s.reached k h);
    }

pub leg_refused : LegRefused
leg_refused t xs i =
    let kept : ℕ → Bool = λ i. ltb (get_or xs i 0) (2 * size t) in
    let it = last (leb (length xs) (first (length xs) (λ i. not (kept i)))) 7 (first (length xs) (λ i. not (kept i))) i in
    let at = tests_first (length xs) kept i in (
      λ e. let f = at.0 (it.0 e) in (f.0, omega (arith, ltb-false (get_or xs i 0) (2 * size t) f.1), λ j h. omega (arith, ltb-true (get_or xs j 0) (2 * size t) (f.2 j h))),
      λ r. it.1 (at.1 (r.0, le-ltb (get_or xs i 0) (2 * size t) (omega (arith, r.1)), λ j h. lt-ltb (get_or xs j 0) (2 * size t) (omega (arith, r.2 j h)))),
    )
