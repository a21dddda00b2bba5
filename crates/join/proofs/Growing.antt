-- One more crossing is come to. Assumes nothing.
use Rattle.std.proofs.Common.{◌≡◌, ℕ, ◌+◌, ◌<◌, Bool, true, false, ◌||◌, eqb, List, [], set, replicate, ℤ, pos, ◌≤ℤ◌, vec_items, sym, refl, ap, ◌∙◌, subst, ⊎_elim, arith}
use Rattle.std.proofs.lemmas.List.{length-replicate, get_or-set_same, get_or-set_other}
use Rattle.std.proofs.lemmas.Bool.{cases_eq, both_ways, eqb-true}
use Rattle.road.specs.Roads.{Town}
use Rattle.road.specs.Counts.{◌⊕◌, size, Set, cut}
use Rattle.road.specs.Model.{marked}
use Rattle.road.specs.Growth.{Tried, unmarked}
use Rattle.road.proofs.Parity.{xor_true}
use Rattle.join.specs.declared.component.Component.{Component}
use Rattle.join.specs.declared.weighted.Weighted.{Weighted}
use Rattle.join.specs.Joins.{◌⊞◌, single, Joins, at}
use Rattle.join.specs.Exchange.{Exit}
use Rattle.join.specs.Amounts.{row, AllEmpty}
use Rattle.join.specs.Weights.{town_of, lengths_of, inner, outer}
use Rattle.join.specs.Components.{crossings_in, path_in, Grown, ClosedWithin}
use Rattle.join.proofs.Joins.{join_on, join_none, side_join}
use Rattle.join.proofs.Stages.{exit_is}
use Rattle.join.proofs.StreetSets.{marked_none}

module _ (t : Town) (A : Set) (c : Component) (p : Grown t A c) (k : ℕ) (h : k < size t) (own : A k ≡ true) (cuts : cut t (crossings_in c) k ≡ true)
    (x y : ℕ) (ex : x ≡ inner t (crossings_in c) k) (ey : y ≡ outer t (crossings_in c) k) where
  exit : Exit t (crossings_in c) A k x y
  exit = exit_is t (crossings_in c) A k x y h own cuts ex ey

  pub out_y : crossings_in c y ≡ false
  out_y = exit.outside

  -- d has a crossing more, with its way
  pub grown_more : y < 100 → (J : List Bool) → marked J ≡ path_in c x ⊞ single k → (d : Component) →
      d.from ≡ c.from → d.marks ≡ set c.marks y true → vec_items d.path ≡ set (vec_items c.path) y J → Grown t A d
  grown_more hy J eJ d ef em ep = record {
    base = ap (crossings_in d) ef ∙ marks_other c.from (λ q. both_ways (crossings_in c c.from) (ap (crossings_in c) q ∙ out_y) p.base) ∙ p.base;
    leads = λ v m. subst (λ u. Joins t (at u) v (path_in d v)) (sym ef)
        (⊎_elim (leads_here v) (λ ne. subst (Joins t (at c.from) v) (sym (row_other v ne)) (p.leads v (was v ne m))) (cases_eq v y));
    by = λ v j m o. ⊎_elim
        (λ q. by_here j (ap (λ f. f j) (sym (ap (path_in d) q ∙ row_same)) ∙ o))
        (λ ne. p.by v j (was v ne m) (ap (λ f. f j) (sym (row_other v ne)) ∙ o)) (cases_eq v y);
  }
    where
      row_same : path_in d y ≡ path_in c x ⊞ single k
      row_same = ap (λ rows. row rows y) ep ∙ ap marked (get_or-set_same (vec_items c.path) y J [] (omega (arith, c.rows))) ∙ eJ

      row_other : (v : ℕ) → (v ≡ y → ⊥) → path_in d v ≡ path_in c v
      row_other v ne = ap (λ rows. row rows v) ep ∙ ap marked (get_or-set_other (vec_items c.path) y v J [] ne)

      marks_other : (v : ℕ) → (v ≡ y → ⊥) → crossings_in d v ≡ crossings_in c v
      marks_other v ne = ap (λ ms. marked ms v) em ∙ get_or-set_other c.marks y v true false ne

      was : (v : ℕ) → (v ≡ y → ⊥) → crossings_in d v ≡ true → crossings_in c v ≡ true
      was v ne m = sym (marks_other v ne) ∙ m

      leads_here : (v : ℕ) → v ≡ y → Joins t (at c.from) v (path_in d v)
      leads_here v q = rw (q, row_same) (join_on t (at c.from) x y (path_in c x) (single k) (p.leads x exit.inside) (side_join t k x y h exit.side))

      by_here : (j : ℕ) → path_in c x j ⊕ eqb j k ≡ true → A j ≡ true
      by_here j o = ⊎_elim (p.by x j exit.inside) (λ q. ap A (eqb-true j k q) ∙ own) (xor_true (path_in c x j) (eqb j k) o)

-- a start to which leads the empty way
grown_from : (t : Town) (A : Set) (d : Component) (s : ℕ) → s < 100 → d.from ≡ s → d.marks ≡ set (replicate 100 false) s true → path_in d s ≡ (λ _. false) → Grown t A d
grown_from t A d s h ef em row_none = record {
  base = ap (crossings_in d) ef ∙ ap (λ xs. marked xs s) em ∙ get_or-set_same (replicate 100 false) s true false (omega (arith, length-replicate 100 false));
  leads = λ v m. subst (λ u. Joins t (at u) v (path_in d v)) (sym ef) (leads_at v (is v m));
  by = λ v k m o. absurd (both_ways (path_in d v k) (ap (λ u. path_in d u k) (is v m) ∙ ap (λ f. f k) row_none) o);
}
  where
    is : (v : ℕ) → crossings_in d v ≡ true → v ≡ s
    is v m = ⊎_elim (λ e. e) (λ ne. absurd (both_ways (crossings_in d v) (ap (λ xs. marked xs v) em ∙ get_or-set_other (replicate 100 false) s v true false ne ∙ ap (λ Z. Z v) (marked_none 100)) m)) (cases_eq v s)

    leads_at : (v : ℕ) → v ≡ s → Joins t (at s) v (path_in d v)
    leads_at v q = rw (q, row_none) (join_none t s)

-- at first only the start is come to
pub grown_start : (t : Town) (A : Set) (c d : Component) (J : List Bool) (s : ℕ) → s < 100 → J ≡ replicate 300 false →
    d.from ≡ s → d.marks ≡ set (replicate 100 false) s true → vec_items d.path ≡ set (vec_items c.path) s J → Grown t A d
grown_start t A c d J s h eJ ef em ep =
    grown_from t A d s h ef em (ap (λ rows. row rows s) ep ∙ ap marked (get_or-set_same (vec_items c.path) s J [] (omega (arith, c.rows)) ∙ eJ) ∙ marked_none 300)

-- so where no crossing has a way yet
pub grown_alone : (t : Town) (A : Set) (d : Component) (s : ℕ) → s < 100 → d.from ≡ s → d.marks ≡ set (replicate 100 false) s true → AllEmpty (vec_items d.path) 100 → Grown t A d
grown_alone t A d s h ef em e = grown_from t A d s h ef em (e.none s)

-- two attempts, one after the other
pub tried_on : {C D E : Type 0} (ms ms1 ms2 : List Bool) (a b : Bool) → Tried ms ms1 a C → Tried ms1 ms2 b D → (ms2 ≡ ms1 → C → D → E) → Tried ms ms2 (a || b) E
tried_on ms ms1 ms2 true true p q f = record { less = λ _. omega (arith, p.less refl, q.less refl); same = λ e. absurd (both_ways true e refl) }
tried_on ms ms1 ms2 true false p q f = record {
  less = λ _. subst (λ m. unmarked m < unmarked ms) (sym (q.same refl).0) (p.less refl);
  same = λ e. absurd (both_ways true e refl);
}
tried_on ms ms1 ms2 false true p q f = record {
  less = λ _. subst (λ m. unmarked ms2 < unmarked m) (p.same refl).0 (q.less refl);
  same = λ e. absurd (both_ways true e refl);
}
tried_on ms ms1 ms2 false false p q f = record {
  less = λ e. absurd (both_ways false refl e);
  same = λ _. ((q.same refl).0 ∙ (p.same refl).0, f (q.same refl).0 (p.same refl).1 (q.same refl).1);
}

-- a street more
pub within_more : (w : Weighted) (bound : ℤ) (ms : List Bool) (k : ℕ) → ClosedWithin w bound ms k → (pos (lengths_of w k) ≤ℤ bound → cut (town_of w) (marked ms) k ≡ false) → ClosedWithin w bound ms (k + 1)
within_more w bound ms k c here = λ j lt le. ⊎_elim (λ e. rw e (here (subst (λ i. pos (lengths_of w i) ≤ℤ bound) e le))) (λ ne. c j (omega arith) le) (cases_eq j k)
