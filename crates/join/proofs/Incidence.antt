-- The streets that a set of crossings cuts, star by star. Assumes nothing.
use Rattle.std.proofs.Common.{◌≡◌, ℕ, ◌+◌, ◌<◌, ◌≤◌, Bool, true, false, not, ◌&&◌, ◌||◌, eqb, ltb, List, [], ◌∷◌, ◌++◌, length, get_or, take, vec_items, sym, refl, ap, ◌∙◌, subst, ap₂, ⊎_elim, arith}
use mathlib.Core.Bool.{and-false}
use Rattle.std.specs.Global.{Vec}
use Rattle.std.proofs.lemmas.List.{take_all, length_push, get_or_append_left, get_or_push}
use Rattle.std.proofs.lemmas.Bool.{cases_eq, cases_lt, both_ways, eqb-true, eq-eqb, ne_eqb, lt-ltb, le-ltb, ltb-true}
use Rattle.road.specs.declared.leg.Leg.{Leg}
use Rattle.road.specs.declared.town.Town as town
use Rattle.road.specs.Roads.{pick, Town, from, into}
use Rattle.road.specs.Counts.{◌⊕◌, one, two, Set, cut}
use Rattle.road.proofs.Parity.{xor_false}
use Rattle.road.specs.Laws.{no_leg}
use Rattle.road.specs.Model.{model}
use Rattle.join.specs.Joins.{single}
use Rattle.join.specs.Odd.{streets_of}
use Rattle.join.specs.Weights.{inner, outer}
use Rattle.join.specs.Borders.{street_at, LeadsOut, Apart, Bordered, BorderedFrom, Stars}
use Rattle.join.proofs.Borders.{taken_new, taken_more, leads_outer}
use Rattle.road.proofs.Models.{size_model}
use Rattle.join.proofs.Pairing.{streets_none, streets_push, inside_model}
use Rattle.join.proofs.StreetSets.{cut_past}
use Rattle.join.proofs.Writing.{each_push}

xor_true_left : (b : Bool) → true ⊕ b ≡ true → b ≡ false
xor_true_left true e = sym e
xor_true_left false e = refl

xor_true_right : (b : Bool) → b ⊕ true ≡ not b
xor_true_right true = refl
xor_true_right false = refl

or_false : (b : Bool) → b || false ≡ b
or_false true = refl
or_false false = refl

or_true : (b : Bool) → b || true ≡ true
or_true true = refl
or_true false = refl

-- the star of a crossing, as the code reads it
pub star_read : (t : Town) (rows : List (Vec Leg)) (n : ℕ) → Stars t rows n → (v : ℕ) → v < n → (x : Vec Leg) → x ≡ get_or rows v x → (xs : List Leg) → xs ≡ vec_items (get_or rows v x) → Bordered t (single v) xs
star_read t rows n s v h x found xs e = subst (Bordered t (single v)) (sym (e ∙ ap vec_items (sym found))) (s.star v x h found)

-- the end of a street that is cut, in Z
inner_in : (t : Town) (Z : Set) (k : ℕ) → cut t Z k ≡ true → Z (inner t Z k) ≡ true
inner_in t Z k c = go (Z (one t k)) refl
  where
    go : (b : Bool) → Z (one t k) ≡ b → Z (pick (not b) (two t k) (one t k)) ≡ true
    go true e = e
    go false e = sym (ap (λ b. b ⊕ Z (two t k)) e) ∙ c

-- its legs begin there
pub star_begin : (t : Town) (v : ℕ) (l : Leg) → LeadsOut t (single v) l → from t l ≡ v
unfolding from
star_begin t v l o = ap (λ b. pick b (two t l.by) (one t l.by)) o.back ∙ eqb-true (inner t (single v) l.by) v (inner_in t (single v) l.by o.cuts)

-- no crossing yet
pub from_none : (t : Town) (Z : Set) → BorderedFrom t Z 0 []
from_none t Z = record {
  each = λ i h. absurd (omega arith);
  from = λ i h. absurd (omega arith);
  apart = λ i j h k. absurd (omega arith);
  all = λ k. ap (λ (J : Set). J k) streets_none ∙ sym (ap (λ b. b && cut t Z k) (le-ltb (inner t Z k) 0 (omega arith)));
}

-- a crossing that is not in Z has no street to add
pub from_past : (t : Town) (Z : Set) (n : ℕ) (ls : List Leg) → BorderedFrom t Z n ls → Z n ≡ false → BorderedFrom t Z (n + 1) ls
from_past t Z n ls b out = record {
  each = b.each;
  from = λ i h. omega (arith, b.from i h);
  apart = b.apart;
  all = λ k. b.all k ∙ go k (cut t Z k) refl;
}
  where
    go : (k : ℕ) (c : Bool) → cut t Z k ≡ c → ltb (inner t Z k) n && c ≡ ltb (inner t Z k) (n + 1) && c
    go k false e = grind arith
    go k true e =
        let ne : inner t Z k ≡ n → ⊥ = λ q. both_ways (Z n) out (sym (ap Z q) ∙ inner_in t Z k e) in
        ⊎_elim
        (λ lt. rw (lt-ltb (inner t Z k) n lt, lt-ltb (inner t Z k) (n + 1) (omega arith)) refl)
        (λ le. rw (le-ltb (inner t Z k) n le, le-ltb (inner t Z k) (n + 1) (omega arith)) refl)
        (cases_lt (inner t Z k) n)

-- all crossings
pub from_all : (t : town.Town) (Z : Set) (ls : List Leg) → BorderedFrom (model t) Z t.crossings ls → Bordered (model t) Z ls
from_all t Z ls b = record {
  each = b.each;
  apart = b.apart;
  all = λ k. b.all k ∙ ⊎_elim
      (λ lt. let e = inside_model t k (omega (arith, size_model t)) in ap (λ c. c && cut (model t) Z k) (lt-ltb (inner (model t) Z k) t.crossings (below e.0 e.1 (Z (one (model t) k)))))
      (λ le. let c = cut_past t Z k le in ap (λ x. ltb (inner (model t) Z k) t.crossings && x) c ∙ and-false (ltb (inner (model t) Z k) t.crossings) ∙ sym c)
      (cases_lt k t.count);
}
  where
    below : {x y : ℕ} → x < t.crossings → y < t.crossings → (c : Bool) → pick (not c) y x < t.crossings
    below hx hy true = hx
    below hx hy false = hy

-- the legs of a star of which the first j have been looked at
pub record Starring (t : Town) (Z : Set) (n : ℕ) (star : List Leg) (j : ℕ) (ls : List Leg) : Type 0 where
  pub each : (i : ℕ) → i < length ls → LeadsOut t Z (get_or ls i no_leg)
  pub from : (i : ℕ) → i < length ls → ltb (inner t Z (street_at ls i)) n || streets_of (take j star) (street_at ls i) ≡ true
  pub apart : Apart ls
  pub all : (k : ℕ) → streets_of ls k ≡ (ltb (inner t Z k) n || streets_of (take j star) k) && cut t Z k

module _ (t : Town) (Z : Set) (n : ℕ) (zn : Z n ≡ true) where
  -- a street that Z cuts is in the star of n just if n is its end in Z
  star_inner : (k : ℕ) → cut t Z k ≡ true → cut t (single n) k ≡ eqb (inner t Z k) n
  star_inner k c = go (Z (one t k)) refl
    where
      not_there : (y : ℕ) → Z y ≡ false → eqb y n ≡ false
      not_there y out = ne_eqb y n (λ e. both_ways (Z n) (sym (ap Z e) ∙ out) zn)

      go : (b : Bool) → Z (one t k) ≡ b → eqb (one t k) n ⊕ eqb (two t k) n ≡ eqb (pick (not b) (two t k) (one t k)) n
      go true e = ap (λ b. eqb (one t k) n ⊕ b) (not_there (two t k) (xor_true_left (Z (two t k)) (sym (ap (λ b. b ⊕ Z (two t k)) e) ∙ c))) ∙ xor_false (eqb (one t k) n)
      go false e = ap (λ b. b ⊕ eqb (two t k) n) (not_there (one t k) e)

  module _ (l : Leg) (x : LeadsOut t (single n) l) where
    -- the other end of a leg of the star says whether Z cuts its street
    other : (b : Bool) → eqb (one t l.by) n ≡ b → (cut t Z l.by ≡ not (Z (outer t (single n) l.by))) × (Z (outer t (single n) l.by) ≡ false → b ≡ Z (one t l.by))
    other true e =
        let one_is : one t l.by ≡ n = eqb-true (one t l.by) n e in
        let z : Z (one t l.by) ≡ true = ap Z one_is ∙ zn in (
          ap (λ b. b ⊕ Z (two t l.by)) z ∙ ap (λ b. not (Z (pick b (two t l.by) (one t l.by)))) (sym e),
          λ _. sym z,
        )
    other false e =
        let two_is : two t l.by ≡ n = eqb-true (two t l.by) n (sym (ap (λ b. b ⊕ eqb (two t l.by) n) e) ∙ x.cuts) in
        let at : outer t (single n) l.by ≡ one t l.by = ap (λ b. pick b (two t l.by) (one t l.by)) e in (
          ap (λ b. Z (one t l.by) ⊕ b) (ap Z two_is ∙ zn) ∙ xor_true_right (Z (one t l.by)) ∙ ap (λ u. not (Z u)) (sym at),
          λ out. sym out ∙ ap Z at,
        )

    -- it ends in Z: its street is not cut
    star_stays : Z (into t l) ≡ true → cut t Z l.by ≡ false
    star_stays e = (other (eqb (one t l.by) n) refl).0 ∙ ap not (ap Z (sym (leads_outer t (single n) l x)) ∙ e)

    -- it ends outside: it leads out of Z
    star_leads : Z (into t l) ≡ false → LeadsOut t Z l
    star_leads e =
        let out : Z (outer t (single n) l.by) ≡ false = ap Z (sym (leads_outer t (single n) l x)) ∙ e in
        let o = other (eqb (one t l.by) n) refl in record {
          below = x.below;
          cuts = o.0 ∙ ap not out;
          back = x.back ∙ ap not (o.1 out);
        }

    -- from n
    star_from : Z (into t l) ≡ false → inner t Z l.by ≡ n
    star_from e = let c = (star_leads e).cuts in eqb-true (inner t Z l.by) n (sym (star_inner l.by c) ∙ x.cuts)

  module _ (star : List Leg) (b : Bordered t (single n) star) where
    pub starring_start : (ls : List Leg) → BorderedFrom t Z n ls → Starring t Z n star 0 ls
    starring_start ls f = record {
      each = f.each;
      from = λ i h. ap (λ c. c || streets_of [] (street_at ls i)) (lt-ltb (inner t Z (street_at ls i)) n (f.from i h));
      apart = f.apart;
      all = λ k. f.all k ∙ ap (λ c. c && cut t Z k) (sym (or_false (ltb (inner t Z k) n)) ∙ ap (λ c. ltb (inner t Z k) n || c) (sym (ap (λ (J : Set). J k) streets_none)));
    }

    module _ (j : ℕ) (h : j < length star) (ls : List Leg) (s : Starring t Z n star j ls) where
      abbrev l : Leg
      l = get_or star j no_leg

      abbrev taken : ℕ → ℕ → Bool
      taken i k = streets_of (take i star) k

      same : (k : ℕ) → (k ≡ l.by → ⊥) → taken j k ≡ taken (j + 1) k
      same k ne = sym (ap (λ (J : Set). J k) (taken_more star j h) ∙ ap (λ c. taken j k ⊕ c) (ne_eqb k l.by ne) ∙ xor_false (taken j k))

      -- the leg ends in Z
      pub starring_skip : Z (into t l) ≡ true → Starring t Z n star (j + 1) ls
      starring_skip e =
          let uncut = star_stays l (b.each j h) e in record {
            each = s.each;
            from = λ i q. ap (λ c. ltb (inner t Z (street_at ls i)) n || c) (sym (same (street_at ls i) (λ is. both_ways (cut t Z l.by) uncut (sym (ap (cut t Z) is) ∙ (s.each i q).cuts)))) ∙ s.from i q;
            apart = s.apart;
            all = λ k. s.all k ∙ ⊎_elim
                (λ is. let z : cut t Z k ≡ false = ap (cut t Z) is ∙ uncut in rw (z, and-false (ltb (inner t Z k) n || taken j k), and-false (ltb (inner t Z k) n || taken (j + 1) k)) refl)
                (λ ne. ap (λ c. (ltb (inner t Z k) n || c) && cut t Z k) (same k ne))
                (cases_eq k l.by);
          }

      -- it leads out
      pub starring_push : Z (into t l) ≡ false → Starring t Z n star (j + 1) (ls ++ l ∷ [])
      starring_push e =
          let lead = star_leads l (b.each j h) e in
          let at_n = star_from l (b.each j h) e in
          let new = taken_new star j h b.apart in
          let fresh : (i : ℕ) → i < length ls → street_at ls i ≡ l.by → ⊥ = λ i q is.
          both_ways (ltb (inner t Z l.by) n || taken j l.by)
          (ap₂ (λ a c. a || c) (le-ltb (inner t Z l.by) n (omega (arith, at_n))) new)
          (ap (λ k. ltb (inner t Z k) n || taken j k) (sym is) ∙ s.from i q) in
          let now : taken (j + 1) l.by ≡ true = ap (λ (J : Set). J l.by) (taken_more star j h) ∙ ap₂ (λ a c. a ⊕ c) new (eq-eqb l.by l.by refl) in
          record {
            each = λ i q. each_push (λ _ y. LeadsOut t Z y) ls l no_leg s.each lead i (omega (arith, length_push ls l));
            from = λ i q. each_push (λ _ y. ltb (inner t Z y.by) n || taken (j + 1) y.by ≡ true) ls l no_leg
                (λ k lt. ap (λ c. ltb (inner t Z (street_at ls k)) n || c) (sym (same (street_at ls k) (fresh k lt))) ∙ s.from k lt)
                (ap (λ c. ltb (inner t Z l.by) n || c) now ∙ or_true (ltb (inner t Z l.by) n)) i (omega (arith, length_push ls l));
            apart = λ i k q r is. ⊎_elim
                (λ last. fresh i (omega arith) (sym (before i (omega arith)) ∙ is ∙ ap (λ (m : Leg). m.by) (get_or_push ls l no_leg k (sym last))))
                (λ ne. s.apart i k q (omega (arith, length_push ls l)) (sym (before i (omega (arith, length_push ls l))) ∙ is ∙ before k (omega (arith, length_push ls l))))
                (cases_eq k (length ls));
            all = λ k. ap (λ (J : Set). J k) (streets_push ls l) ∙ ap (λ c. c ⊕ eqb k l.by) (s.all k) ∙ ⊎_elim
                (λ is. rw is (ap₂ (λ a c. (a && cut t Z l.by) ⊕ c) (ap₂ (λ a c. a || c) (le-ltb (inner t Z l.by) n (omega (arith, at_n))) new) (eq-eqb l.by l.by refl)
                ∙ sym (ap₂ (λ a c. a && c) (ap (λ c. ltb (inner t Z l.by) n || c) now ∙ or_true (ltb (inner t Z l.by) n)) lead.cuts)))
                (λ ne. ap (λ c. ((ltb (inner t Z k) n || taken j k) && cut t Z k) ⊕ c) (ne_eqb k l.by ne) ∙ xor_false ((ltb (inner t Z k) n || taken j k) && cut t Z k)
                ∙ ap (λ c. (ltb (inner t Z k) n || c) && cut t Z k) (same k ne))
                (cases_eq k l.by);
          }
        where
          before : (i : ℕ) → i < length ls → street_at (ls ++ l ∷ []) i ≡ street_at ls i
          before i q = ap (λ (m : Leg). m.by) (get_or_append_left ls (l ∷ []) no_leg i q)

    -- all its legs have been looked at
    pub starring_end : (j : ℕ) → length star ≤ j → (ls : List Leg) → Starring t Z n star j ls → BorderedFrom t Z (n + 1) ls
    starring_end j le ls s = record {
      each = s.each;
      from = λ i h. let k = street_at ls i in ltb-true (inner t Z k) (n + 1) (sym (both k (s.each i h).cuts) ∙ s.from i h);
      apart = s.apart;
      all = λ k. s.all k ∙ go k (cut t Z k) refl;
    }
      where
        streets : (k : ℕ) → streets_of (take j star) k ≡ cut t (single n) k
        streets k = ap (λ xs. streets_of xs k) (take_all j star le) ∙ b.all k

        upto : (i : ℕ) → ltb i n || eqb i n ≡ ltb i (n + 1)
        upto i = ⊎_elim
            (λ lt. rw (lt-ltb i n lt, lt-ltb i (n + 1) (omega arith)) refl)
            (λ le. ⊎_elim (λ e. rw (le-ltb i n le, eq-eqb i n e, lt-ltb i (n + 1) (omega arith)) refl) (λ ne. rw (le-ltb i n le, ne_eqb i n ne, le-ltb i (n + 1) (omega arith)) refl) (cases_eq i n))
            (cases_lt i n)

        both : (k : ℕ) → cut t Z k ≡ true → ltb (inner t Z k) n || streets_of (take j star) k ≡ ltb (inner t Z k) (n + 1)
        both k c = ap (λ d. ltb (inner t Z k) n || d) (streets k ∙ star_inner k c) ∙ upto (inner t Z k)

        go : (k : ℕ) (c : Bool) → cut t Z k ≡ c → (ltb (inner t Z k) n || streets_of (take j star) k) && c ≡ ltb (inner t Z k) (n + 1) && c
        go k true e = ap (λ d. d && true) (both k e)
        go k false e = and-false (ltb (inner t Z k) n || streets_of (take j star) k) ∙ sym (and-false (ltb (inner t Z k) (n + 1)))
