-- The stars of all crossings, gathered street by street. Assumes nothing.
use Rattle.std.proofs.Common.{◌≡◌, ℕ, ◌+◌, ◌<◌, ◌≤◌, Bool, true, false, not, eqb, List, [], ◌∷◌, ◌++◌, length, get_or, set, replicate, map, vec_items, sym, refl, ap, ap₂, ◌∙◌, subst, ⊎_elim, arith}
use Rattle.std.specs.Global.{Vec}
use Rattle.std.proofs.lemmas.List.{length-set, length-map, length-replicate, get_or-map, get_or-replicate, get_or-set_same, get_or-set_other, map-set}
use Rattle.std.proofs.lemmas.Bool.{cases_eq, eq-eqb, ne_eqb}
use Rattle.road.specs.declared.leg.Leg.{Leg}
use Rattle.road.specs.declared.town.Town as town
use Rattle.road.specs.Roads.{Town}
use Rattle.road.specs.Counts.{◌⊕◌, size, one, two}
use Rattle.road.specs.Model.{model}
use Rattle.road.proofs.Parity.{xor_self}
use Rattle.join.specs.Joins.{single}
use Rattle.join.specs.Borders.{LeadsOut, BorderedBelow, Stars, StarsBelow, Pushed, legs_at}
use Rattle.join.proofs.Borders.{bordered_none, bordered_past, bordered_more, bordered_all}
use Rattle.join.proofs.StreetSets.{cut_past}

-- no street yet
pub stars_none : (t : Town) (n : ℕ) (rows : List (Vec Leg)) → map vec_items rows ≡ replicate n [] → StarsBelow t 0 rows n
stars_none t n rows e = record {
  long = sym (length-map rows vec_items) ∙ ap length e ∙ length-replicate n [];
  star = λ v h. subst (BorderedBelow t (single v) 0) (sym (ap (λ xs. get_or xs v []) e ∙ get_or-replicate n v [] [] h)) (bordered_none t (single v));
}

-- a row is written back with a leg more
pub pushed_row : (rows : List (Vec Leg)) (v : ℕ) (l : Leg) (old new : Vec Leg) → v < length rows → old ≡ get_or rows v old → vec_items new ≡ vec_items old ++ l ∷ [] → Pushed rows v l (set rows v new)
pushed_row rows v l old new h found e =
    map-set vec_items rows v new ∙ ap (set (map vec_items rows) v) (e ∙ ap (λ xs. xs ++ l ∷ []) (ap vec_items found ∙ sym (get_or-map vec_items rows v old [] h)))

module _ (rows : List (Vec Leg)) (v : ℕ) (l : Leg) (rows' : List (Vec Leg)) (p : Pushed rows v l rows') where
  pub pushed_long : length rows' ≡ length rows
  pushed_long = sym (length-map rows' vec_items) ∙ ap length p ∙ length-set (map vec_items rows) v (legs_at rows v ++ l ∷ []) ∙ length-map rows vec_items

  pushed_same : v < length rows → legs_at rows' v ≡ legs_at rows v ++ l ∷ []
  pushed_same h = ap (λ xs. get_or xs v []) p ∙ get_or-set_same (map vec_items rows) v (legs_at rows v ++ l ∷ []) [] (omega (arith, length-map rows vec_items))

  pushed_other : (u : ℕ) → (u ≡ v → ⊥) → legs_at rows' u ≡ legs_at rows u
  pushed_other u ne = ap (λ xs. get_or xs u []) p ∙ get_or-set_other (map vec_items rows) v u (legs_at rows v ++ l ∷ []) [] ne

module _ (t : Town) (k n : ℕ) (rows : List (Vec Leg)) (s : StarsBelow t k rows n) where
  -- street k leads back to where it begins
  pub stars_loop : one t k ≡ two t k → StarsBelow t (k + 1) rows n
  stars_loop e = record {
    long = s.long;
    star = λ v h. bordered_past t (single v) k (legs_at rows v) (s.star v h) (ap (λ x. eqb x v ⊕ eqb (two t k) v) e ∙ xor_self (eqb (two t k) v));
  }

  abbrev x : ℕ
  x = one t k

  abbrev y : ℕ
  y = two t k

  abbrev out : Leg
  out = record { by = k; back = false }

  abbrev home : Leg
  home = record { by = k; back = true }

  module _ (below : k < size t) (apart : x ≡ y → ⊥) where
    leads : (v : ℕ) (b : Bool) → eqb (one t k) v ≡ not b → eqb (two t k) v ≡ b → LeadsOut t (single v) (record { by = k; back = b })
    leads v b p q = record { below = below; cuts = ap₂ (λ x y. x ⊕ y) p q ∙ other b; back = twice b ∙ ap not (sym p) }
      where
        other : (b : Bool) → not b ⊕ b ≡ true
        other true = refl
        other false = refl

        twice : (b : Bool) → b ≡ not (not b)
        twice true = refl
        twice false = refl

    -- it leads from one crossing to another
    pub stars_both : one t k < n → two t k < n → (rows1 rows2 : List (Vec Leg)) →
        Pushed rows (one t k) (record { by = k; back = false }) rows1 → Pushed rows1 (two t k) (record { by = k; back = true }) rows2 → StarsBelow t (k + 1) rows2 n
    stars_both h1 h2 rows1 rows2 p1 p2 = record {
      long = long2 ∙ long1 ∙ s.long;
      star = λ v h. ⊎_elim (λ e. rw e at_two) (λ ne2. ⊎_elim (λ e. rw e at_one) (λ ne1. at_other v h ne1 ne2) (cases_eq v (one t k))) (cases_eq v (two t k));
    }
      where
        long1 : length rows1 ≡ length rows
        long1 = pushed_long rows x out rows1 p1

        long2 : length rows2 ≡ length rows1
        long2 = pushed_long rows1 y home rows2 p2

        at_two : BorderedBelow t (single y) (k + 1) (legs_at rows2 y)
        at_two = subst (BorderedBelow t (single y) (k + 1))
            (sym (pushed_same rows1 y home rows2 p2 (omega (arith, long1, s.long)) ∙ ap (λ ls. ls ++ home ∷ []) (pushed_other rows x out rows1 p1 y (λ e. apart (sym e)))))
            (bordered_more t (single y) k (legs_at rows y) (s.star y h2) home (leads y true (ne_eqb x y apart) (eq-eqb y y refl)) refl)

        at_one : BorderedBelow t (single x) (k + 1) (legs_at rows2 x)
        at_one = subst (BorderedBelow t (single x) (k + 1))
            (sym (pushed_other rows1 y home rows2 p2 x apart ∙ pushed_same rows x out rows1 p1 (omega (arith, s.long))))
            (bordered_more t (single x) k (legs_at rows x) (s.star x h1) out (leads x false (eq-eqb x x refl) (ne_eqb y x (λ e. apart (sym e)))) refl)

        at_other : (v : ℕ) → v < n → (v ≡ x → ⊥) → (v ≡ y → ⊥) → BorderedBelow t (single v) (k + 1) (legs_at rows2 v)
        at_other v h ne1 ne2 = subst (BorderedBelow t (single v) (k + 1))
            (sym (pushed_other rows1 y home rows2 p2 v ne2 ∙ pushed_other rows x out rows1 p1 v ne1))
            (bordered_past t (single v) k (legs_at rows v) (s.star v h) (ap₂ (λ a b. a ⊕ b) (ne_eqb x v (λ e. ne1 (sym e))) (ne_eqb y v (λ e. ne2 (sym e)))))

-- all streets
pub stars_all : (t : town.Town) (k n : ℕ) (rows : List (Vec Leg)) → StarsBelow (model t) k rows n → t.count ≤ k → Stars (model t) rows n
stars_all t k n rows s le = record {
  long = s.long;
  star = λ v ls h is. bordered_all (model t) (single v) k (vec_items ls)
      (subst (BorderedBelow (model t) (single v) k) (get_or-map vec_items rows v ls [] (omega (arith, s.long)) ∙ ap vec_items (sym is)) (s.star v h))
      (λ j past. cut_past t (single v) j (omega arith));
}
