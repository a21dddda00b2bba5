-- Classes of crossings that come into one another. Assumes nothing.
use Rattle.std.proofs.Common.{◌≡◌, ℕ, ◌+◌, ◌<◌, Bool, true, ◌&&◌, eqb, ltb, List, [], length, get_or, set, vec_items, sym, refl, ap, ◌∙◌, subst, ap₂, ⊎_elim, arith}
use mathlib.Core.Path.{fun_ext}
use Rattle.std.proofs.lemmas.List.{get_or-set_same, get_or-set_other}
use Rattle.std.proofs.lemmas.Bool.{cases_eq, lt-ltb, le-ltb, and_parts, eqb-true, ltb-true, eq-eqb, both_ways}
use Rattle.road.specs.declared.leg.Leg.{Leg}
use Rattle.road.specs.Roads.{Town, pick, from, into}
use Rattle.road.specs.Counts.{◌⊕◌, size, one, two, Set, cut, Side, forth, back}
use Rattle.road.specs.Model.{marked}
use Rattle.road.proofs.Parity.{xor_true, xor_self}
use Rattle.road.proofs.Cuts.{leg_side}
use Rattle.join.specs.declared.partition.Classes.{Classes}
use Rattle.join.specs.Joins.{◌⊞◌, single, Joins, at, Zero, Class}
use Rattle.join.specs.Amounts.{row}
use Rattle.join.specs.Classes.{label_in, way_in, Classed, Merged, Absorbed, Kept, class_in}
use Rattle.join.proofs.Joins.{join_on, join_back, join_uncut, side_join, xor_meet}
use Rattle.join.proofs.StreetSets.{marked_ext}
use Rattle.join.proofs.Labels.{pick_same, pick_other, relabelled, label_kept}

-- streets in one of two sets of no length have none
pub zero_xor : (t : Town) (l : ℕ → ℕ) (J Q : Set) → Zero t l J → Zero t l Q → Zero t l (J ⊞ Q)
zero_xor t l J Q hJ hQ k i e = ⊎_elim (hJ k i) (hQ k i) (xor_true (J k) (Q k) e)

pub zero_single : (t : Town) (l : ℕ → ℕ) (k : ℕ) → l k ≡ 0 → Zero t l (single k)
zero_single t l k z j i e = ap l (eqb-true j k e) ∙ z

-- one crossing more is looked at
module _ (from to : ℕ) (link : Set) (c d : Classes) (i : ℕ) (p : Absorbed from to link c d i) where
  -- its class is another
  pub absorbed_past : (label_in d i ≡ from → ⊥) → Absorbed from to link c d (i + 1)
  absorbed_past ne = record {
    labels = λ v h. ⊎_elim
        (λ e. ap (label_in d) e ∙ p.past_labels i (omega arith) ∙ sym (pick_other (label_in c i) from to (label_in c i) other) ∙ ap (λ u. pick (eqb (label_in c u) from) to (label_in c u)) (sym e))
        (λ n. p.labels v (omega arith)) (cases_eq v i);
    ways = λ v h. ⊎_elim
        (λ e. ap (way_in d) e ∙ p.past_ways i (omega arith) ∙ sym (pick_other (label_in c i) from (link ⊞ way_in c i) (way_in c i) other)
        ∙ ap (λ u. pick (eqb (label_in c u) from) (link ⊞ way_in c u) (way_in c u)) (sym e))
        (λ n. p.ways v (omega arith)) (cases_eq v i);
    past_labels = λ v h. p.past_labels v (omega arith);
    past_ways = λ v h. p.past_ways v (omega arith);
  }
    where
      other : label_in c i ≡ from → ⊥
      other e = ne (p.past_labels i (omega arith) ∙ e)

  -- it comes over: d' has another label and way for it
  pub absorbed_more : (Q : List Bool) → i < 100 → label_in d i ≡ from → marked Q ≡ link ⊞ way_in d i → (d' : Classes) →
      d'.label ≡ set d.label i to → vec_items d'.way ≡ set (vec_items d.way) i Q → Absorbed from to link c d' (i + 1)
  absorbed_more Q h own q d' el ew = record {
    labels = λ v lt. ⊎_elim
        (λ e. ap (label_in d') e ∙ label_same ∙ sym (pick_same (label_in c i) from to (label_in c i) mine) ∙ ap (λ u. pick (eqb (label_in c u) from) to (label_in c u)) (sym e))
        (λ n. label_other v n ∙ p.labels v (omega arith)) (cases_eq v i);
    ways = λ v lt. ⊎_elim
        (λ e. ap (way_in d') e ∙ way_same ∙ q ∙ ap (λ W. link ⊞ W) (p.past_ways i (omega arith)) ∙ sym (pick_same (label_in c i) from (link ⊞ way_in c i) (way_in c i) mine)
        ∙ ap (λ u. pick (eqb (label_in c u) from) (link ⊞ way_in c u) (way_in c u)) (sym e))
        (λ n. way_other v n ∙ p.ways v (omega arith)) (cases_eq v i);
    past_labels = λ v le. label_other v (λ e. omega arith) ∙ p.past_labels v (omega arith);
    past_ways = λ v le. way_other v (λ e. omega arith) ∙ p.past_ways v (omega arith);
  }
    where
      mine : label_in c i ≡ from
      mine = sym (p.past_labels i (omega arith)) ∙ own

      label_same : label_in d' i ≡ to
      label_same = ap (λ ns. get_or ns i 0) el ∙ get_or-set_same d.label i to 0 (omega (arith, d.places))

      label_other : (v : ℕ) → (v ≡ i → ⊥) → label_in d' v ≡ label_in d v
      label_other v ne = ap (λ ns. get_or ns v 0) el ∙ get_or-set_other d.label i v to 0 ne

      way_same : way_in d' i ≡ marked Q
      way_same = ap (λ rows. row rows i) ew ∙ ap marked (get_or-set_same (vec_items d.way) i Q [] (omega (arith, d.rows)))

      way_other : (v : ℕ) → (v ≡ i → ⊥) → way_in d' v ≡ way_in d v
      way_other v ne = ap (λ rows. row rows v) ew ∙ ap marked (get_or-set_other (vec_items d.way) i v Q [] ne)

-- one class has come into another
module _ (from to : ℕ) (link : Set) (c d : Classes) (p : Absorbed from to link c d 100) where
  label_from : (v : ℕ) → v < 100 → label_in c v ≡ from → label_in d v ≡ to
  label_from = relabelled 100 to from (label_in c) (label_in d) p.labels

  label_other : (v : ℕ) → v < 100 → (label_in c v ≡ from → ⊥) → label_in d v ≡ label_in c v
  label_other = label_kept 100 to from (label_in c) (label_in d) p.labels

  way_from : (v : ℕ) → v < 100 → label_in c v ≡ from → way_in d v ≡ link ⊞ way_in c v
  way_from v h e = p.ways v h ∙ pick_same (label_in c v) from (link ⊞ way_in c v) (way_in c v) e

  way_other : (v : ℕ) → v < 100 → (label_in c v ≡ from → ⊥) → way_in d v ≡ way_in c v
  way_other v h ne = p.ways v h ∙ pick_other (label_in c v) from (link ⊞ way_in c v) (way_in c v) ne

  -- crossings of the two are in one class
  pub absorbed_both : (x y : ℕ) → x < 100 → y < 100 → label_in c x ≡ to → label_in c y ≡ from → label_in d x ≡ label_in d y
  absorbed_both x y hx hy ex ey = ⊎_elim (label_from x hx) (λ ne. label_other x hx ne ∙ ex) (cases_eq (label_in c x) from) ∙ sym (label_from y hy ey)

  -- the ways still lead over streets of no length
  pub absorbed_classed : (t : Town) (l : ℕ → ℕ) → Classed t l c → Joins t (at to) from link → Zero t l link → Classed t l d
  absorbed_classed t l r j z = record {
    leads = λ v h. ⊎_elim (leads_from v h) (leads_other v h) (cases_eq (label_in c v) from);
    zero = λ v h. ⊎_elim (zero_from v h) (zero_other v h) (cases_eq (label_in c v) from);
  }
    where
      leads_from : (v : ℕ) → v < 100 → label_in c v ≡ from → Joins t (at (label_in d v)) v (way_in d v)
      leads_from v h e = rw (label_from v h e, way_from v h e) (join_on t (at to) from v link (way_in c v) j (rw (← e) (r.leads v h)))

      leads_other : (v : ℕ) → v < 100 → (label_in c v ≡ from → ⊥) → Joins t (at (label_in d v)) v (way_in d v)
      leads_other v h ne = rw (label_other v h ne, way_other v h ne) (r.leads v h)

      zero_from : (v : ℕ) → v < 100 → label_in c v ≡ from → Zero t l (way_in d v)
      zero_from v h e = subst (Zero t l) (sym (way_from v h e)) (zero_xor t l link (way_in c v) z (r.zero v h))

      zero_other : (v : ℕ) → v < 100 → (label_in c v ≡ from → ⊥) → Zero t l (way_in d v)
      zero_other v h ne = subst (Zero t l) (sym (way_other v h ne)) (r.zero v h)

  -- what was in one class is, by the same ways
  pub absorbed_kept : Kept c d
  absorbed_kept = record {
    labels = λ u v hu hv e. p.labels u hu ∙ ap (λ a. pick (eqb a from) to a) e ∙ sym (p.labels v hv);
    ways = λ u v hu hv e. ⊎_elim
        (λ f. ap₂ (λ J Q. J ⊞ Q) (way_from u hu f) (way_from v hv (sym e ∙ f)) ∙ fun_ext (λ k. xor_meet (link k) (way_in c u k) (way_in c v k)))
        (λ ne. ap₂ (λ J Q. J ⊞ Q) (way_other u hu ne) (way_other v hv (λ f. ne (e ∙ f))))
        (cases_eq (label_in c u) from);
  }

-- a leg goes over its street from one end to the other
pub leg_ends : (t : Town) (l : Leg) (k x y : ℕ) → l.by ≡ k → x ≡ from t l → y ≡ into t l → Side t k x y
unfolding from into
leg_ends t l k x y e ex ey = rw (ex, ey, ← e) (leg_side t l.by l.back)

-- what is the same at the ends of a street, seen from either
pub ends_same : (t : Town) (k x y : ℕ) (f : ℕ → ℕ) → Side t k x y → f x ≡ f y → f (one t k) ≡ f (two t k)
ends_same t k x y f forth e = e
ends_same t k x y f back e = sym e

-- labels are crossings, since no street leads to another number
pub label_small : (t : Town) (l : ℕ → ℕ) (c : Classes) (v : ℕ) → ((k : ℕ) → (one t k < 100) × (two t k < 100)) → Classed t l c → v < 100 → label_in c v < 100
label_small t l c v ends r h =
    let uncut = λ (k : ℕ) (_ : k < size t) (_ : way_in c v k ≡ true). ap₂ (λ a b. a ⊕ b) (lt-ltb (one t k) 100 (ends k).0) (lt-ltb (two t k) 100 (ends k).1) in
    ltb-true (label_in c v) 100 (join_uncut t (label_in c v) v (way_in c v) (λ u. ltb u 100) (r.leads v h) uncut ∙ lt-ltb v 100 h)

-- the way from the label of x over the street k and from y back to its label
pub link_is : (t : Town) (l : ℕ → ℕ) (c : Classes) (k x y : ℕ) (H Q : Set) → Classed t l c → k < size t → l k ≡ 0 → Side t k x y →
    x < 100 → y < 100 → H ≡ way_in c x ⊞ single k → Q ≡ H ⊞ way_in c y → Joins t (at (label_in c x)) (label_in c y) Q × Zero t l Q
link_is t l c k x y H Q r h z side hx hy eH eQ =
    let q : Q ≡ (way_in c x ⊞ single k) ⊞ way_in c y = eQ ∙ ap (λ J. J ⊞ way_in c y) eH in
    let a = join_on t (at (label_in c x)) x y (way_in c x) (single k) (r.leads x hx) (side_join t k x y h side) in (
      rw q (join_on t (at (label_in c x)) y (label_in c y) (way_in c x ⊞ single k) (way_in c y) a (join_back t (label_in c y) y (way_in c y) (r.leads y hy))),
      subst (Zero t l) (sym q) (zero_xor t l (way_in c x ⊞ single k) (way_in c y) (zero_xor t l (way_in c x) (single k) (r.zero x hx) (zero_single t l k z)) (r.zero y hy)),
    )

-- what stays is kept
pub kept_same : (c : Classes) → Kept c c
kept_same c = record { labels = λ u v hu hv e. e; ways = λ u v hu hv e. refl }

-- what is kept twice is kept
pub kept_on : (c d e : Classes) → Kept c d → Kept d e → Kept c e
kept_on c d e p q = record {
  labels = λ u v hu hv s. q.labels u v hu hv (p.labels u v hu hv s);
  ways = λ u v hu hv s. q.ways u v hu hv (p.labels u v hu hv s) ∙ p.ways u v hu hv s;
}

-- streets of no length stay in a class, with one more
pub merged_more : (t : Town) (l : ℕ → ℕ) (c d : Classes) (k : ℕ) → ((j : ℕ) → (one t j < 100) × (two t j < 100)) → Merged t l c k → Kept c d →
    (l k ≡ 0 → label_in d (one t k) ≡ label_in d (two t k)) → Merged t l d (k + 1)
merged_more t l c d k ends m p here j h z = ⊎_elim
    (λ e. subst (λ i. label_in d (one t i) ≡ label_in d (two t i)) (sym e) (here (ap l (sym e) ∙ z)))
    (λ ne. p.labels (one t j) (two t j) (ends j).0 (ends j).1 (m j (omega arith) z)) (cases_eq j k)

-- the marks of a class
pub class_marks : (marks : List Bool) (c : Classes) (b : ℕ) → length marks ≡ 100 →
    ((v : ℕ) → v < 100 → marked marks v ≡ eqb (label_in c v) (label_in c b)) → marked marks ≡ class_in c b
class_marks marks c b len h = marked_ext marks (class_in c b) 100 (omega arith)
    (λ v lt. h v lt ∙ ap (λ x. x && eqb (label_in c v) (label_in c b)) (sym (lt-ltb v 100 lt)))
    (λ v le. ap (λ x. x && eqb (label_in c v) (label_in c b)) (le-ltb v 100 le))

-- the way from b to a crossing of its class
pub class_way : (t : Town) (l : ℕ → ℕ) (c : Classes) (b x : ℕ) → Classed t l c → b < 100 → class_in c b x ≡ true →
    Joins t (at b) x (way_in c b ⊞ way_in c x) × Zero t l (way_in c b ⊞ way_in c x)
class_way t l c b x p h i =
    let q = and_parts (ltb x 100) (eqb (label_in c x) (label_in c b)) i in
    let lt = ltb-true x 100 q.0 in
    let e = eqb-true (label_in c x) (label_in c b) q.1 in
    let a = join_back t (label_in c b) b (way_in c b) (p.leads b h) in
    let d : Joins t (at (label_in c b)) x (way_in c x) = rw (← e) (p.leads x lt) in
    (join_on t (at b) (label_in c b) x (way_in c b) (way_in c x) a d, zero_xor t l (way_in c b) (way_in c x) (p.zero b h) (p.zero x lt))

-- merged classes are classes
pub class_is : (t : Town) (l : ℕ → ℕ) (c : Classes) (b : ℕ) → ((k : ℕ) → (one t k < 100) × (two t k < 100)) → Classed t l c → Merged t l c (size t) → b < 100 →
    Class t l b (class_in c b)
class_is t l c b ends p m h = record {
  base = rw (lt-ltb b 100 h) (eq-eqb (label_in c b) (label_in c b) refl);
  long = λ k i u. ⊎_elim (λ z. absurd (shut k i u z)) (λ ne. omega arith) (cases_eq (l k) 0);
  way = λ x i. (way_in c b ⊞ way_in c x, (class_way t l c b x p h i).0, (class_way t l c b x p h i).1);
}
  where
    shut : (k : ℕ) → k < size t → cut t (class_in c b) k ≡ true → l k ≡ 0 → ⊥
    shut k i u z =
        let same : class_in c b (one t k) ≡ class_in c b (two t k) =
        ap₂ (λ x y. x && y) (lt-ltb (one t k) 100 (ends k).0 ∙ sym (lt-ltb (two t k) 100 (ends k).1)) (ap (λ a. eqb a (label_in c b)) (m k i z)) in
        both_ways (cut t (class_in c b) k) (ap (λ x. x ⊕ class_in c b (two t k)) same ∙ xor_self (class_in c b (two t k))) u
