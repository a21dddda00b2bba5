-- A closed tour from the depot of a sound town leaves nothing: it is a round. Assumes nothing.
use Rattle.std.proofs.Common.{◌≡◌, ℕ, zero, suc, ◌*◌, ◌<◌, ◌≤◌, Bool, true, false, eqb, List, refl, ap, ◌∙◌, subst, ⊎_elim, suc-mul, arith}
use Rattle.std.proofs.lemmas.Bool.{cases_eq, cases_lt, eq-eqb, eqb-true}
use Rattle.road.specs.declared.leg.Leg.{Leg}
use Rattle.road.specs.Roads.{Town, from, into, Drive, stay, go, times}
use Rattle.road.specs.Counts.{◌⊕◌, bit, size, one, two, Set, cut, ends, degree, Side, forth, back}
use Rattle.road.specs.Reach.{reached}
use Rattle.road.specs.Model.{marked}
use Rattle.road.proofs.Models.{size_model}
use Rattle.road.proofs.Sums.{sum_ext, le_sum}
use Rattle.road.proofs.Cuts.{leg_side}
use Rattle.road.proofs.Drives.{times_other}
use Rattle.road.proofs.Reached.{drive_closed, reached_way}
use Rattle.join.specs.declared.least.LeastDrives.{LeastDrives}
use Rattle.join.specs.Extra.{counts}
use Rattle.join.specs.Laws.{town_of, depot_of}
use Rattle.join.proofs.Theorem.{even_counts}
use Rattle.pairs.specs.Pairings.{depot_extra}
use Rattle.pairs.proofs.DepotExtra.{at_home}
use Rattle.pairs.specs.Walks.{Each, Clear}
use Rattle.round.specs.Tours.{count_in, Even, ClosedTour, Tour}
use Rattle.round.proofs.Tours.{clear_degree}

-- what holds of both ends of a leg holds of both ends of its street
both_ends : (t : Town) (P : ℕ → Type 0) (k x y : ℕ) → Side t k x y → P x → P y → P (one t k) × P (two t k)
both_ends t P k x y forth p q = (p, q)
both_ends t P k x y back p q = (q, p)

module _ (t : Town) (d : ℕ → ℕ) where
  -- nothing is left at a crossing
  abbrev Cleared : ℕ → Type 0
  Cleared x = Clear t d x (size t)

  cleared_start : {v w : ℕ} {ls : List Leg} → Drive t v ls w → Cleared w → Each (λ l. Cleared (from t l)) ls → Cleared v
  cleared_start (stay v) cw u = cw
  cleared_start (go v w l ls h e r) cw (cl, cls) = subst Cleared e cl

  -- nothing is left at the ends of a street that is driven
  cleared_ends : {v w : ℕ} {ls : List Leg} → Drive t v ls w → Cleared w → Each (λ l. Cleared (from t l)) ls → (k : ℕ) → 0 < times k ls → Cleared (one t k) × Cleared (two t k)
  unfolding times from into
  cleared_ends (stay v) cw u k p = absurd (omega arith)
  cleared_ends (go v w l ls h e r) cw (cl, cls) k p =
      ⊎_elim
      (λ q. subst (λ j. Cleared (one t j) × Cleared (two t j)) q (both_ends t Cleared l.by (from t l) (into t l) (leg_side t l.by l.back) cl (cleared_start r cw cls)))
      (λ ne. cleared_ends r cw cls k (omega (arith, times_other k l ls ne)))
      (cases_eq l.by k)

  -- a street with an end there is not left
  cleared_street : (k x : ℕ) → k < size t → 0 < ends t k x → Cleared x → d k ≡ 0
  cleared_street k x h some clear = ⊎_elim (λ p. absurd (omega (arith, clear k h p))) (λ p. omega arith) (cases_lt 0 (d k))

  degree_cleared : (x : ℕ) → degree t d x ≡ 0 → Cleared x
  degree_cleared x e k h p = at (d k) (ends t k x) p (omega (arith, le_sum (size t) k (λ j. d j * ends t j x) h))
    where
      at : (n m : ℕ) → 0 < n → n * m ≤ 0 → m ≡ 0
      at zero m p q = absurd (omega arith)
      at (suc n) m p q = omega (arith, suc-mul n m)

module _ (t : Town) (c d : ℕ → ℕ) (r : ℕ) (ls : List Leg) (some : (k : ℕ) → k < size t → 1 ≤ c k) (q : ClosedTour t c d r ls) where
  -- the crossings at which nothing is left
  abbrev Z : Set
  Z x = eqb (degree t d x) 0

  cleared : (x : ℕ) → Z x ≡ true → Cleared t d x
  cleared x z = degree_cleared t d x (eqb-true (degree t d x) 0 z)

  in_set : (x : ℕ) → Cleared t d x → Z x ≡ true
  in_set x h = eq-eqb (degree t d x) 0 (clear_degree t d x h)

  end_one : (k : ℕ) → 0 < ends t k (one t k)
  end_one k = omega (arith, ap bit (eq-eqb (one t k) (one t k) refl))

  end_two : (k : ℕ) → 0 < ends t k (two t k)
  end_two k = omega (arith, ap bit (eq-eqb (two t k) (two t k) refl))

  -- a street that is not left is driven
  driven_ends : (k : ℕ) → k < size t → d k ≡ 0 → Cleared t d (one t k) × Cleared t d (two t k)
  driven_ends k h e = cleared_ends t d q.walk.drive q.walk.clear q.clears k (omega (arith, q.walk.taken k, some k h))

  -- so no street leads out of them
  closed : (k : ℕ) → k < size t → cut t Z k ≡ false
  closed k h =
      same (Z (one t k)) (Z (two t k))
      (λ z. in_set (two t k) (driven_ends k h (cleared_street t d k (one t k) h (end_one k) (cleared (one t k) z))).1)
      (λ z. in_set (one t k) (driven_ends k h (cleared_street t d k (two t k) h (end_two k) (cleared (two t k) z))).0)
    where
      same : (a b : Bool) → (a ≡ true → b ≡ true) → (b ≡ true → a ≡ true) → a ⊕ b ≡ false
      same true b f g = ap (λ x. true ⊕ x) (f refl)
      same false true f g = ap (λ x. x ⊕ true) (g refl)
      same false false f g = refl

  -- and nothing is left of what can be come to
  none_left : ((k : ℕ) → k < size t → reached t r (one t k) ≡ true) → (k : ℕ) → k < size t → d k ≡ 0
  none_left come k h =
      let way = reached_way t r (one t k) (come k h) in
      cleared_street t d k (one t k) h (end_one k) (cleared (one t k) (drive_closed t Z closed way.1 (in_set r q.walk.clear)))

-- the tour is a round
closed_round : (t : Town) (J : Set) (c d : ℕ → ℕ) (r : ℕ) (ls : List Leg) → ((k : ℕ) → k < size t → c k ≡ counts J k) →
    ((k : ℕ) → k < size t → reached t r (one t k) ≡ true) → ClosedTour t c d r ls → Tour t r J ls
closed_round t J c d r ls same come q = record {
  round = record { drive = q.walk.drive; all = λ k h. omega (arith, driven k h, bit_some k) };
  driven = driven;
  forth = q.walk.forth;
}
  where
    bit_some : (k : ℕ) → 1 ≤ counts J k
    bit_some k = omega arith

    driven : (k : ℕ) → k < size t → times k ls ≡ counts J k
    driven k h = omega (arith, q.walk.taken k, same k h, none_left t c d r ls (λ j i. omega (arith, same j i, bit_some j)) q come k h)

-- degrees are even by the counts of the streets
even_same : (t : Town) (c e : ℕ → ℕ) → ((k : ℕ) → k < size t → c k ≡ e k) → Even t e → Even t c
even_same t c e same even x = omega (arith, even x, sum_ext (size t) (λ k. c k * ends t k x) (λ k. e k * ends t k x) (λ k h. ap (λ n. n * ends t k x) (same k h)))

-- counts of the extra drives to the depot
module _ (s : LeastDrives) (ms : List Bool) (xs : List ℕ) (extra : marked ms ≡ depot_extra s) (counted : (k : ℕ) → k < 300 → count_in xs k ≡ counts (marked ms) k) where
  each_street : (k : ℕ) → k < size (town_of s) → count_in xs k ≡ counts (depot_extra s) k
  each_street k h = let t = s.town.now.town in counted k (omega (arith, size_model t, t.few)) ∙ ap (λ (J : Set). counts J k) extra

  pub extra_even : Even (town_of s) (count_in xs)
  extra_even = even_same (town_of s) (count_in xs) (counts (depot_extra s)) each_street (even_counts (town_of s) (depot_of s) (depot_extra s) (s.joins (depot_of s) (at_home s)))

  pub extra_tour : (d : ℕ → ℕ) (ls : List Leg) → ClosedTour (town_of s) (count_in xs) d (depot_of s) ls → Tour (town_of s) (depot_of s) (depot_extra s) ls
  extra_tour d ls q = closed_round (town_of s) (depot_extra s) (count_in xs) d (depot_of s) ls each_street s.town.now.reached q
