-- The streets that a set of crossings cuts, one by one. Assumes nothing.
use Rattle.std.proofs.Common.{◌≡◌, ℕ, suc, ◌+◌, ◌<◌, ◌≤◌, Bool, true, false, not, ◌&&◌, eqb, ltb, List, [], ◌∷◌, ◌++◌, length, get_or, take, sym, refl, ap, ◌∙◌, subst, ap₂, ⊎_elim, arith}
use mathlib.Core.Path.{fun_ext}
use mathlib.Core.Bool.{and-false}
use Rattle.std.proofs.lemmas.List.{take_more, get_or-take, length-take-le, length_push, take_all, get_or_append_left, get_or_push}
use Rattle.std.proofs.lemmas.Bool.{cases_eq, cases_lt, both_ways, eq-eqb, ne_eqb, lt-ltb, le-ltb, false_from_ne_true}
use Rattle.road.specs.declared.leg.Leg.{Leg}
use Rattle.road.specs.Roads.{pick, Town, into}
use Rattle.road.specs.Counts.{◌⊕◌, when, bit, odd, size, one, two, Set, cut}
use Rattle.road.specs.Laws.{no_leg}
use Rattle.road.proofs.Drives.{times_other}
use Rattle.road.proofs.Parity.{xor_false}
use Rattle.road.specs.declared.town.Town as town
use Rattle.road.specs.Model.{model}
use Rattle.road.proofs.Sums.{sum_none, sum_point}
use Rattle.join.specs.Joins.{◌⊞◌, single, cost, outs}
use Rattle.join.specs.Odd.{streets_of}
use Rattle.join.specs.Borders.{street_at, LeadsOut, Apart, Bordered, BorderedBelow}
use Rattle.join.specs.Weights.{outer}
use Rattle.join.proofs.Pairing.{streets_none, streets_push}
use Rattle.join.proofs.StreetSets.{cost_bound}
use Rattle.join.proofs.Writing.{each_push}

-- a street of a list of legs is that of one of them
pub street_found : (ls : List Leg) (k : ℕ) → streets_of ls k ≡ true → (i : ℕ) × (i < length ls) × (street_at ls i ≡ k)
street_found [] k e = absurd (both_ways (streets_of [] k) (ap (λ (J : Set). J k) streets_none) e)
street_found (l ∷ ls) k e = ⊎_elim
    (λ q. (0, omega arith, q))
    (λ ne. let r = street_found ls k (ap odd (sym (times_other k l ls ne)) ∙ e) in (suc r.0, omega (arith, r.1), r.2))
    (cases_eq l.by k)

module _ (ls : List Leg) (i : ℕ) (h : i < length ls) where
  -- a leg more
  pub taken_more : streets_of (take (i + 1) ls) ≡ streets_of (take i ls) ⊞ single (street_at ls i)
  taken_more = ap streets_of (take_more ls i no_leg h) ∙ streets_push (take i ls) (get_or ls i no_leg)

  -- its street is a new one
  pub taken_new : Apart ls → streets_of (take i ls) (street_at ls i) ≡ false
  taken_new apart = false_from_ne_true (streets_of (take i ls) (street_at ls i)) (λ e.
      let r = street_found (take i ls) (street_at ls i) e in
      let lt : r.0 < i = omega (arith, r.1, length-take-le i ls (omega arith)) in
      apart r.0 i lt h (sym (ap (λ (l : Leg). l.by) (get_or-take i ls r.0 no_leg lt)) ∙ r.2))

-- no street yet
pub bordered_none : (t : Town) (Z : Set) → BorderedBelow t Z 0 []
bordered_none t Z = record {
  each = λ i h. absurd (omega arith);
  below = λ i h. absurd (omega arith);
  apart = λ i j h k. absurd (omega arith);
  all = λ k. ap (λ (J : Set). J k) streets_none ∙ sym (ap (λ b. b && cut t Z k) (le-ltb k 0 (omega arith)));
}

-- what is below n + 1 is below n, or n
at_or_below : (P : Type 0) (k n : ℕ) → (k < n → P) → (k ≡ n → P) → (n < k → P) → P
at_or_below P k n low at high = ⊎_elim low (λ le. ⊎_elim at (λ ne. high (omega arith)) (cases_eq k n)) (cases_lt k n)

module _ (t : Town) (Z : Set) (n : ℕ) (ls : List Leg) (b : BorderedBelow t Z n ls) where
  -- street n is not cut
  pub bordered_past : cut t Z n ≡ false → BorderedBelow t Z (n + 1) ls
  bordered_past uncut = record {
    each = b.each;
    below = λ i h. omega (arith, b.below i h);
    apart = b.apart;
    all = λ k. b.all k ∙ at_or_below (ltb k n && cut t Z k ≡ ltb k (n + 1) && cut t Z k) k n
        (λ lt. rw (lt-ltb k n lt, lt-ltb k (n + 1) (omega arith)) refl)
        (λ e. let z : cut t Z k ≡ false = ap (cut t Z) e ∙ uncut in rw (z, and-false (ltb k n), and-false (ltb k (n + 1))) refl)
        (λ gt. rw (le-ltb k n (omega arith), le-ltb k (n + 1) (omega arith)) refl);
  }

  -- it is
  pub bordered_more : (l : Leg) → LeadsOut t Z l → l.by ≡ n → BorderedBelow t Z (n + 1) (ls ++ l ∷ [])
  bordered_more l out is = record {
    each = λ i h. each_push (λ _ x. LeadsOut t Z x) ls l no_leg b.each out i (omega (arith, length_push ls l));
    below = λ i h. each_push (λ _ x. x.by < n + 1) ls l no_leg (λ j lt. omega (arith, b.below j lt)) (omega arith) i (omega (arith, length_push ls l));
    apart = λ i j h k e. ⊎_elim
        (λ q. omega (arith, b.below i (omega arith), before i (omega arith), last j q, e, is))
        (λ ne. b.apart i j h (omega (arith, length_push ls l)) (sym (before i (omega (arith, length_push ls l))) ∙ e ∙ before j (omega (arith, length_push ls l))))
        (cases_eq j (length ls));
    all = λ k. ap (λ (J : Set). J k) (streets_push ls l) ∙ ap (λ c. c ⊕ eqb k l.by) (b.all k) ∙ at_or_below ((ltb k n && cut t Z k) ⊕ eqb k l.by ≡ ltb k (n + 1) && cut t Z k) k n
        (λ lt. rw (lt-ltb k n lt, lt-ltb k (n + 1) (omega arith), ne_eqb k l.by (λ q. omega arith)) (xor_false (cut t Z k)))
        (λ e. let y : cut t Z k ≡ true = ap (cut t Z) (e ∙ sym is) ∙ out.cuts in rw (le-ltb k n (omega arith), lt-ltb k (n + 1) (omega arith), eq-eqb k l.by (e ∙ sym is), y) refl)
        (λ gt. rw (le-ltb k n (omega arith), le-ltb k (n + 1) (omega arith), ne_eqb k l.by (λ q. omega arith)) refl);
  }
    where
      before : (i : ℕ) → i < length ls → street_at (ls ++ l ∷ []) i ≡ street_at ls i
      before i h = ap (λ (m : Leg). m.by) (get_or_append_left ls (l ∷ []) no_leg i h)

      last : (j : ℕ) → j ≡ length ls → street_at (ls ++ l ∷ []) j ≡ l.by
      last j e = ap (λ (m : Leg). m.by) (get_or_push ls l no_leg j (sym e))

-- all streets
pub bordered_all : (t : Town) (Z : Set) (n : ℕ) (ls : List Leg) → BorderedBelow t Z n ls → ((k : ℕ) → n ≤ k → cut t Z k ≡ false) → Bordered t Z ls
bordered_all t Z n ls b past = record {
  each = b.each;
  apart = b.apart;
  all = λ k. b.all k ∙ ⊎_elim (λ lt. ap (λ c. c && cut t Z k) (lt-ltb k n lt)) (λ le. ap (λ c. c && cut t Z k) (le-ltb k n le) ∙ sym (past k le)) (cases_lt k n);
}

pub border_is : {t : Town} {Z : Set} {ls : List Leg} → Bordered t Z ls → streets_of ls ≡ cut t Z
border_is b = fun_ext b.all

-- what holds for each leg of a border, holds for each street that is cut
pub each_cut : (t : Town) (Z : Set) (ls : List Leg) → Bordered t Z ls → (P : ℕ → Type 0) → ((i : ℕ) → i < length ls → P (street_at ls i)) → (k : ℕ) → cut t Z k ≡ true → P k
each_cut t Z ls b P h k c = let r = street_found ls k (b.all k ∙ c) in subst P r.2 (h r.0 r.1)

-- a leg that leads out ends outside
pub leads_outer : (t : Town) (Z : Set) (l : Leg) → LeadsOut t Z l → into t l ≡ outer t Z l.by
unfolding into
leads_outer t Z l o = ap (λ b. pick b (one t l.by) (two t l.by)) o.back ∙ turned (Z (one t l.by)) (one t l.by) (two t l.by)
  where
    turned : (b : Bool) (x y : ℕ) → pick (not b) x y ≡ pick b y x
    turned true x y = refl
    turned false x y = refl

-- how many streets of J the first n legs go by
abbrev pub outs_taken : (t : Town) (J : Set) → List Leg → ℕ → ℕ
outs_taken t J ls n = cost t (λ k. bit (streets_of (take n ls) k)) J

pub outs_none : (t : Town) (J : Set) (ls : List Leg) → outs_taken t J ls 0 ≡ 0
unfolding cost
outs_none t J ls = sum_none (size t) (λ k. when (J k) (bit (streets_of [] k))) (λ k h. ap (λ b. when (J k) (bit b)) (ap (λ (S : Set). S k) streets_none) ∙ nothing (J k))
  where
    nothing : (b : Bool) → when b 0 ≡ 0
    nothing true = refl
    nothing false = refl

-- a leg more
pub outs_more : (t : Town) (Z J : Set) (ls : List Leg) → Bordered t Z ls → (n : ℕ) → n < length ls → outs_taken t J ls (n + 1) ≡ outs_taken t J ls n + bit (J (street_at ls n))
unfolding cost
outs_more t Z J ls b n h = sum_point (size t) k (bit (J k)) (λ j. when (J j) (bit (streets_of (take (n + 1) ls) j))) (λ j. when (J j) (bit (streets_of (take n ls) j))) (b.each n h).below here there
  where
    k : ℕ
    k = street_at ls n

    at : (j : ℕ) → streets_of (take (n + 1) ls) j ≡ streets_of (take n ls) j ⊕ eqb j k
    at j = ap (λ (S : Set). S j) (taken_more ls n h)

    one : (y : Bool) → when y 1 ≡ when y 0 + bit y
    one true = omega arith
    one false = omega arith

    here : when (J k) (bit (streets_of (take (n + 1) ls) k)) ≡ when (J k) (bit (streets_of (take n ls) k)) + bit (J k)
    here = let new = taken_new ls n h b.apart in
        ap (λ c. when (J k) (bit c)) (at k ∙ ap₂ (λ x y. x ⊕ y) new (eq-eqb k k refl)) ∙ one (J k) ∙ ap (λ c. when (J k) (bit c) + bit (J k)) (sym new)

    there : (j : ℕ) → j < size t → (k ≡ j → ⊥) → when (J j) (bit (streets_of (take (n + 1) ls) j)) ≡ when (J j) (bit (streets_of (take n ls) j))
    there j i ne = ap (λ c. when (J j) (bit c)) (at j ∙ ap (λ c. streets_of (take n ls) j ⊕ c) (ne_eqb j k (λ e. ne (sym e))) ∙ xor_false (streets_of (take n ls) j))

-- all legs
pub outs_all : (t : Town) (Z J : Set) (ls : List Leg) → Bordered t Z ls → (n : ℕ) → length ls ≤ n → outs_taken t J ls n ≡ outs t Z J
outs_all t Z J ls b n le = ap (λ (S : Set). cost t (λ k. bit (S k)) J) (ap streets_of (take_all n ls le) ∙ border_is b)

-- they are few
pub outs_small : (t : town.Town) (J : Set) (ls : List Leg) (n : ℕ) → outs_taken (model t) J ls n ≤ 1200000000000
outs_small t J ls n = cost_bound t (λ k. bit (streets_of (take n ls) k)) J (λ k. one (streets_of (take n ls) k))
  where
    one : (b : Bool) → bit b ≤ 4000000000
    one true = omega arith
    one false = omega arith
