-- Trees from a crossing to all that can be come to from there. Assumes nothing.
use Rattle.std.proofs.Common.{◌≡◌, ℕ, suc, ◌+◌, ◌<◌, Bool, true, false, ◌&&◌, eqb, replicate, sym, refl, ap, ◌∙◌, subst, ap₂, ⊎_elim, arith}
use Rattle.std.proofs.lemmas.Bool.{both_ways, cases_eq, cases_Bool, eqb-true, ne_eqb, false_from_ne_true}
use Rattle.road.specs.Roads.{pick, Town}
use Rattle.road.specs.Counts.{◌⊕◌, par, size, one, two, Set, cut}
use Rattle.road.specs.Model.{marked}
use Rattle.road.specs.Reach.{reached}
use Rattle.road.proofs.Cuts.{cut_side}
use Rattle.road.proofs.Parity.{xor_assoc, xor_comm, xor_twice}
use Rattle.road.proofs.Sums.{par_ext, par_xor}
use Rattle.road.proofs.Reached.{reached_start, reached_closed, reached_way, drive_closed}
use Rattle.join.specs.declared.component.Component.{Component}
use Rattle.join.specs.declared.problem.Problem.{Problem}
use Rattle.join.specs.Joins.{◌⊞◌, single, out, Joins, at}
use Rattle.join.specs.Odd.{odd_at}
use Rattle.join.specs.Components.{crossings_in, path_in, Spans}
use Rattle.join.specs.Problems.{town_in, start_in, reached_in}
use Rattle.join.specs.First.{Rooted}
use Rattle.join.proofs.Joins.{out_xor, out_none, join_on, join_uncut}
use Rattle.join.proofs.Linear.{linear_out}
use Rattle.join.proofs.Pairing.{inside_model}
use Rattle.join.proofs.Relaxing.{side_reached}
use Rattle.join.proofs.StreetSets.{marked_none}

-- a tree spans just what can be come to
pub spans_reached : (t : Town) (c : Component) → Spans t c → (u : ℕ) → crossings_in c u ≡ reached t c.from u
spans_reached t c s u = ⊎_elim here there (cases_Bool (crossings_in c u))
  where
    here : crossings_in c u ≡ true → crossings_in c u ≡ reached t c.from u
    here y = y ∙ sym (reached_start t c.from) ∙ join_uncut t c.from u (path_in c u) (reached t c.from) (s.leads u y) (λ k h _. reached_closed t c.from k h)

    there : crossings_in c u ≡ false → crossings_in c u ≡ reached t c.from u
    there n = n ∙ sym (false_from_ne_true (reached t c.from u) (λ y. both_ways (crossings_in c u) n (drive_closed t (crossings_in c) s.closed (reached_way t c.from u y).1 s.base)))

-- a parity with one more
pub par_more : (n : ℕ) (f : ℕ → Bool) → par (n + 1) f ≡ f n ⊕ par n f
unfolding par
par_more n f = subst (λ m. par m f ≡ f n ⊕ par n f) next refl
  where
    next : suc n ≡ n + 1
    next = omega arith

-- the parity of the ends at v, of the streets of A below k
abbrev pub ends_below_odd : (t : Town) (A : Set) (v : ℕ) → ℕ → Bool
ends_below_odd t A v k = par k (λ j. A j && cut t (single v) j)

-- of no street
pub no_ends : (t : Town) (A : Set) (v : ℕ) → marked (replicate 100 false) v ≡ ends_below_odd t A v 0
unfolding par
no_ends t A v = ap (λ (Z : Set). Z v) (marked_none 100)

-- with the marks of both ends of a street turned
pub ends_more : (t : Town) (A O P : Set) (k : ℕ) → ((v : ℕ) → O v ≡ ends_below_odd t A v k) → P ≡ pick (A k) ((O ⊞ single (one t k)) ⊞ single (two t k)) O →
    (v : ℕ) → P v ≡ ends_below_odd t A v (k + 1)
ends_more t A O P k before e v = ap (λ (Z : Set). Z v) e ∙ turned (A k) refl ∙ sym (par_more k (λ j. A j && cut t (single v) j))
  where
    same : (x : ℕ) → eqb v x ≡ eqb x v
    same x = ⊎_elim (λ e. rw e refl) (λ ne. ne_eqb v x ne ∙ sym (ne_eqb x v (λ e. ne (sym e)))) (cases_eq v x)

    turned : (b : Bool) → A k ≡ b → pick b ((O ⊞ single (one t k)) ⊞ single (two t k)) O v ≡ (A k && cut t (single v) k) ⊕ ends_below_odd t A v k
    turned true y =
        xor_assoc (O v) (eqb v (one t k)) (eqb v (two t k)) ∙ xor_comm (O v) (eqb v (one t k) ⊕ eqb v (two t k))
        ∙ ap₂ (λ a b. a ⊕ b) (ap₂ (λ a b. a ⊕ b) (same (one t k)) (same (two t k)) ∙ ap (λ b. b && cut t (single v) k) (sym y)) (before v)
    turned false n = before v ∙ ap (λ b. (b && cut t (single v) k) ⊕ ends_below_odd t A v k) (sym n)

-- the parities of the ways to the odd crossings below n
abbrev pub ways_to_odd : (t : Town) (A : Set) (r : ℕ) (Z : Set) → ℕ → Bool
ways_to_odd t A r Z n = par n (λ u. odd_at t A u && (Z r ⊕ Z u))

-- no way yet
pub no_ways_yet : (t : Town) (A : Set) (r : ℕ) → (Z : Set) → out t (marked (replicate 300 false)) Z ≡ ways_to_odd t A r Z 0
unfolding par
no_ways_yet t A r Z = ap (λ (J : Set). out t J Z) (marked_none 300) ∙ out_none t (λ _. false) Z (λ _ _ _. refl)

-- a way more
pub way_more : (t : Town) (A H Q : Set) (r n : ℕ) → ((Z : Set) → out t H Z ≡ ways_to_odd t A r Z n) → odd_at t A n ≡ true → Joins t (at r) n Q →
    (Z : Set) → out t (H ⊞ Q) Z ≡ ways_to_odd t A r Z (n + 1)
way_more t A H Q r n before o q Z =
    out_xor t H Q Z ∙ ap₂ (λ a b. a ⊕ b) (before Z) (q Z) ∙ xor_comm (ways_to_odd t A r Z n) (Z r ⊕ Z n)
    ∙ ap (λ b. (b && (Z r ⊕ Z n)) ⊕ ways_to_odd t A r Z n) (sym o) ∙ sym (par_more n (λ u. odd_at t A u && (Z r ⊕ Z u)))

-- no way more
pub no_way_more : (t : Town) (A H : Set) (r n : ℕ) → ((Z : Set) → out t H Z ≡ ways_to_odd t A r Z n) → odd_at t A n ≡ false →
    (Z : Set) → out t H Z ≡ ways_to_odd t A r Z (n + 1)
no_way_more t A H r n before o Z = before Z ∙ ap (λ b. (b && (Z r ⊕ Z n)) ⊕ ways_to_odd t A r Z n) (sym o) ∙ sym (par_more n (λ u. odd_at t A u && (Z r ⊕ Z u)))

module _ (p : Problem) where
  abbrev t : Town
  t = town_in p

  abbrev A : Set
  A = marked p.required.now

  abbrev r : ℕ
  r = p.streets.town.now.depot

  -- the number of odd crossings is even
  odd_even : par t.crossings (odd_at t A) ≡ false
  odd_even = sym (linear_out t A (inside_model p.streets.town.now) (λ _. true)) ∙ out_none t A (λ _. true) (λ k h e. absurd (both_ways false refl e))

  -- the ways to all odd crossings lead out as often as the required streets
  all_ways : (Z : Set) → ways_to_odd t A r Z t.crossings ≡ out t A Z
  all_ways Z = ⊎_elim at_true at_false (cases_Bool (Z r)) ∙ sym (linear_out t A (inside_model p.streets.town.now) Z)
    where
      at_false : Z r ≡ false → ways_to_odd t A r Z t.crossings ≡ par t.crossings (λ u. Z u && odd_at t A u)
      at_false e = par_ext t.crossings _ _ (λ u h. ap (λ z. odd_at t A u && (z ⊕ Z u)) e ∙ swap (odd_at t A u) (Z u))
        where
          swap : (o z : Bool) → o && (false ⊕ z) ≡ z && o
          swap o z = grind arith

      at_true : Z r ≡ true → ways_to_odd t A r Z t.crossings ≡ par t.crossings (λ u. Z u && odd_at t A u)
      at_true e =
          par_ext t.crossings _ (λ u. odd_at t A u ⊕ (Z u && odd_at t A u)) (λ u h. ap (λ z. odd_at t A u && (z ⊕ Z u)) e ∙ split (odd_at t A u) (Z u))
          ∙ par_xor t.crossings (odd_at t A) (λ u. Z u && odd_at t A u)
          ∙ ap (λ b. b ⊕ par t.crossings (λ u. Z u && odd_at t A u)) odd_even
        where
          split : (o z : Bool) → o && (true ⊕ z) ≡ o ⊕ (z && o)
          split o z = grind arith

  -- so they make every crossing even with them
  pub ways_join : (H : Set) → ((Z : Set) → out t H Z ≡ ways_to_odd t A r Z p.streets.town.now.crossings) → Joins (town_in p) (start_in p) p.streets.town.now.depot H
  ways_join H e Z = e Z ∙ all_ways Z ∙ sym (xor_twice (out t A Z) (Z r))

  module _ (c : Component) (w : Rooted p c) where
    -- odd crossings can be come to
    pub odd_found : (v : ℕ) → odd_at (town_in p) (marked p.required.now) v ≡ true → crossings_in c v ≡ true
    odd_found v o = ⊎_elim (λ y. y) (λ n. absurd (both_ways (odd_at t A v) (out_none t A (single v) (λ k h ck. absurd (both_ways (crossings_in c v) n (found k h ck)))) o)) (cases_Bool (crossings_in c v))
      where
        found : (k : ℕ) → k < size t → cut t (single v) k ≡ true → crossings_in c v ≡ true
        found k h ck =
            let s = cut_side t k (single v) ck in
            ap (λ Z. Z v) w.found ∙ subst (λ x. reached_in p x ≡ true) (eqb-true s.0 v s.3) (side_reached p k s.0 s.1 h s.2)

    -- a way of the tree begins at the depot
    pub tree_leads : (u : ℕ) → crossings_in c u ≡ true → Joins (town_in p) (at p.streets.town.now.depot) u (path_in c u)
    tree_leads u y = subst (λ x. Joins t (at x) u (path_in c u)) w.from (w.spans.leads u y)

    -- a set that leads to the depot leads on along the tree
    pub along_tree : (u : ℕ) (H J : Set) → reached_in p u ≡ true → Joins (town_in p) (start_in p) p.streets.town.now.depot H → J ≡ H ⊞ path_in c u → Joins (town_in p) (start_in p) u J
    along_tree u H J y h e = subst (Joins t (start_in p) u) (sym e) (join_on t (start_in p) r u H (path_in c u) h (tree_leads u (ap (λ Z. Z u) w.found ∙ y)))
