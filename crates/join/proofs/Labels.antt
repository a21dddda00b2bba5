-- Labels of classes: two classes become one, or one more is spent, and the steps that are left fall. Assumes nothing.
use Rattle.std.proofs.Common.{◌≡◌, ℕ, ◌+◌, ◌*◌, ◌<◌, ◌≤◌, Bool, true, false, not, ◌&&◌, ◌||◌, eqb, sym, refl, ap, ◌∙◌, ⊎_elim, arith}
use Rattle.std.proofs.lemmas.Bool.Decides.{nat_tests}
use Rattle.std.proofs.lemmas.Bool.{eqb-true, eqb-false, eq-eqb, ne_eqb, cases_eq, both_ways, and_parts, or_cases, not-true, false_from_ne_true}
use Rattle.road.specs.Roads.{pick, Town}
use Rattle.road.specs.Counts.{bit, size, Set, cut, Side, all}
use Rattle.road.proofs.Parity.{bit_most}
use Rattle.road.proofs.Sums.{sum_ext, sum_add, sum_le, sum_only, sum_ones}
use Rattle.road.proofs.Cuts.{side_turn}
use Rattle.join.specs.Joins.{shorter}
use Rattle.join.specs.Exchange.{Exit}
use Rattle.join.specs.Classes.{Labels}
use Rattle.join.specs.Potentials.{lower}
use Rattle.join.specs.Progress.{Spent, steps_left}
use Rattle.join.proofs.Exchange.{exit_cut}
use Rattle.join.proofs.Spent.{spent_stays, spent_made}

-- what is picked by a number
pub pick_same : {A : Type 0} (n m : ℕ) (a b : A) → n ≡ m → pick (eqb n m) a b ≡ a
pick_same n m a b e = rw (eq-eqb n m e)

pub pick_other : {A : Type 0} (n m : ℕ) (a b : A) → (n ≡ m → ⊥) → pick (eqb n m) a b ≡ b
pick_other n m a b ne = rw (ne_eqb n m ne)

-- no more than three steps are left for each crossing
pub steps_most : (n : ℕ) (cls : ℕ → ℕ) (spent : Set) → steps_left n cls spent ≤ 3 * n
unfolding steps_left
steps_most n cls spent =
    let a = sum_le n (λ v. bit (eqb (cls v) v)) (λ _. 1) (λ v _. bit_most (eqb (cls v) v)) in
    let b = sum_le n (λ v. bit (eqb (cls v) v && not (spent v))) (λ _. 1) (λ v _. bit_most (eqb (cls v) v && not (spent v))) in
    omega (arith, sum_ones n)

-- a class is no longer spent if it becomes part of another
abbrev pub unspend : ℕ → ℕ → Set → Set
unspend a b spent v = spent v && (not (eqb v a) && not (eqb v b))

-- with one class more spent
abbrev pub spend : ℕ → Set → Set
spend a spent v = spent v || eqb v a

-- at one crossing: the count of classes, and of classes that are not spent, after a merge
fewer_at : (a o : Bool) → (o ≡ true → a ≡ true) → bit (a && not o) + bit o ≡ bit a
fewer_at a o h = grind arith

unspent_at : (r s x o : Bool) → bit ((r && not o) && not (s && (not x && not o))) ≤ bit (r && not s) + bit x
unspent_at r s x o = grind arith

-- and after one class more is spent
spend_at : (r s o : Bool) → (o ≡ true → (r ≡ true) × (s ≡ false)) → bit (r && not (s || o)) + bit o ≡ bit (r && not s)
spend_at r s o h = grind arith

-- the label b became a
module _ (n a b : ℕ) (cls new : ℕ → ℕ) (is : (v : ℕ) → v < n → new v ≡ pick (eqb (cls v) b) a (cls v)) where
  pub relabelled : (v : ℕ) → v < n → cls v ≡ b → new v ≡ a
  relabelled v h e = is v h ∙ pick_same (cls v) b a (cls v) e

  pub label_kept : (v : ℕ) → v < n → (cls v ≡ b → ⊥) → new v ≡ cls v
  label_kept v h ne = is v h ∙ pick_other (cls v) b a (cls v) ne

-- the class of y came into that of x
module _ (n : ℕ) (cls new : ℕ → ℕ) (lb : Labels n cls) (x y : ℕ) (hx : x < n) (hy : y < n) (apart : cls x ≡ cls y → ⊥)
    (is : (v : ℕ) → v < n → new v ≡ pick (eqb (cls v) (cls y)) (cls x) (cls v)) where
  hit : (v : ℕ) → v < n → cls v ≡ cls y → new v ≡ cls x
  hit = relabelled n (cls x) (cls y) cls new is

  miss : (v : ℕ) → v < n → (cls v ≡ cls y → ⊥) → new v ≡ cls v
  miss = label_kept n (cls x) (cls y) cls new is

  -- the classes are the same but for one
  same : (v : ℕ) → v < n → eqb (new v) v ≡ (eqb (cls v) v && not (eqb v (cls y)))
  same v h = let own_x = lb.own x hx in let own_y = lb.own y hy in let e = hit v h in let ne = miss v h in grind (arith, nat_tests)

  -- there is one class less
  pub merge_falls : (spent : Set) → steps_left n new (unspend (cls x) (cls y) spent) < steps_left n cls spent
  unfolding steps_left
  merge_falls spent =
      let e₁ = sum_ext n (λ v. bit (eqb (new v) v) + bit (eqb v (cls y))) (λ v. bit (eqb (cls v) v))
      (λ v h. ap (λ z. bit z + bit (eqb v (cls y))) (same v h) ∙ fewer_at (eqb (cls v) v) (eqb v (cls y)) (λ q. rep v (eqb-true v (cls y) q))) in
      let e₂ = sum_add n (λ v. bit (eqb (new v) v)) (λ v. bit (eqb v (cls y))) in
      let e₃ = sum_only n (λ _. 1) (cls y) (lb.small y hy) in
      let e₄ = sum_only n (λ _. 1) (cls x) (lb.small x hx) in
      let e₅ = sum_le n (λ v. bit (eqb (new v) v && not (unspend (cls x) (cls y) spent v))) (λ v. bit (eqb (cls v) v && not (spent v)) + bit (eqb v (cls x)))
      (λ v h. rw (same v h) (unspent_at (eqb (cls v) v) (spent v) (eqb v (cls x)) (eqb v (cls y)))) in
      let e₆ = sum_add n (λ v. bit (eqb (cls v) v && not (spent v))) (λ v. bit (eqb v (cls x))) in
      omega arith
    where
      rep : (v : ℕ) → v ≡ cls y → eqb (cls v) v ≡ true
      rep v q = eq-eqb (cls v) v (ap cls q ∙ lb.own y hy ∙ sym q)

  -- the labels still are labels
  pub merge_labels : Labels n new
  merge_labels = record { small = small; own = own }
    where
      small : (v : ℕ) → v < n → new v < n
      small v h = let e = hit v h in let ne = miss v h in let x_small = lb.small x hx in let v_small = lb.small v h in grind arith

      own : (v : ℕ) → v < n → new (new v) ≡ new v
      own v h = ⊎_elim
          (λ e. ap new (hit v h e) ∙ miss (cls x) (lb.small x hx) (λ g. apart (sym (lb.own x hx) ∙ g)) ∙ lb.own x hx ∙ sym (hit v h e))
          (λ e. ap new (miss v h e) ∙ miss (cls v) (lb.small v h) (λ g. e (sym (lb.own v h) ∙ g)) ∙ lb.own v h ∙ sym (miss v h e))
          (cases_eq (cls v) (cls y))

  -- what is spent and no part of the two still is
  pub merge_spent : (t : Town) (l f : ℕ → ℕ) (spent : Set) → ((k u v : ℕ) → k < size t → Side t k u v → v < n) → ((a : ℕ) → spent a ≡ true → Spent t l f cls a) →
      (a : ℕ) → unspend (cls x) (cls y) spent a ≡ true → Spent t l f new a
  merge_spent t l f spent within shown a e =
      let p = and_parts (spent a) (not (eqb a (cls x)) && not (eqb a (cls y))) e in
      let q = and_parts (not (eqb a (cls x))) (not (eqb a (cls y))) p.1 in
      let n₁ = eqb-false a (cls x) (not-true (eqb a (cls x)) q.0) in
      let n₂ = eqb-false a (cls y) (not-true (eqb a (cls y)) q.1) in
      let d = shown a p.0 in
      let hu = within d.by d.y d.x d.below (side_turn t d.by d.x d.y d.side) in
      let hv = within d.by d.x d.y d.below d.side in
      record {
        by = d.by;
        x = d.x;
        y = d.y;
        below = d.below;
        side = d.side;
        inside = miss d.x hu (λ g. n₂ (sym d.inside ∙ g)) ∙ d.inside;
        outside = λ g. ⊎_elim (λ i. n₁ (sym g ∙ hit d.y hv i)) (λ i. d.outside (sym (miss d.y hv i) ∙ g)) (cases_eq (cls d.y) (cls y));
        nearer = d.nearer;
      }

-- Z is the class of b, and no crossing that a street leads to from there is nearer than b
module _ (t : Town) (n : ℕ) (within : (k x y : ℕ) → k < size t → Side t k x y → y < n) (l f cls : ℕ → ℕ) (lb : Labels n cls) (spent : Set)
    (shown : (a : ℕ) → spent a ≡ true → Spent t l f cls a) (b : ℕ) (hb : b < n) (Z : Set) (is : (v : ℕ) → v < n → Z v ≡ eqb (cls v) (cls b))
    (above : (k x y : ℕ) → Exit t Z all k x y → (f b ≤ f y) × (1 ≤ l k) × (f x ≡ f b)) where
  -- both ends of a street are below n
  hx : (k x y : ℕ) → k < size t → Side t k x y → x < n
  hx k x y h s = within k y x h (side_turn t k x y s)

  -- so it is not spent
  unspent : spent (cls b) ≡ false
  unspent = false_from_ne_true (spent (cls b)) (λ s. no_way (shown (cls b) s))
    where
      no_way : Spent t l f cls (cls b) → ⊥
      no_way d =
          let in_x = is d.x (hx d.by d.x d.y d.below d.side) ∙ eq-eqb (cls d.x) (cls b) d.inside in
          let out_y = is d.y (within d.by d.x d.y d.below d.side) ∙ ne_eqb (cls d.y) (cls b) d.outside in
          omega (arith, above d.by d.x d.y (record { below = d.below; own = refl; side = d.side; inside = in_x; outside = out_y }), d.nearer)

  -- one step is spent with it
  pub spend_falls : steps_left n cls (spend (cls b) spent) < steps_left n cls spent
  unfolding steps_left
  spend_falls =
      let e₁ = sum_ext n (λ v. bit (eqb (cls v) v && not (spend (cls b) spent v)) + bit (eqb v (cls b))) (λ v. bit (eqb (cls v) v && not (spent v)))
      (λ v _. spend_at (eqb (cls v) v) (spent v) (eqb v (cls b)) (here v)) in
      let e₂ = sum_add n (λ v. bit (eqb (cls v) v && not (spend (cls b) spent v))) (λ v. bit (eqb v (cls b))) in
      let e₃ = sum_only n (λ _. 1) (cls b) (lb.small b hb) in
      omega arith
    where
      here : (v : ℕ) → eqb v (cls b) ≡ true → (eqb (cls v) v ≡ true) × (spent v ≡ false)
      here v q = let e = eqb-true v (cls b) q in (eq-eqb (cls v) v (ap cls e ∙ lb.own b hb ∙ sym e), ap spent e ∙ unspent)

  -- it is charged with e, which street k leaves and no more
  module _ (In : Set) (ends : (k x y : ℕ) → k < size t → Side t k x y → In y ≡ true) (e : ℕ) (fit : (k : ℕ) → k < size t → cut t Z k ≡ true → e ≤ l k)
      (covered : (u : ℕ) → In u ≡ true → Z u ≡ false → e ≤ f u) (k x y : ℕ) (w : Exit t Z all k x y) (exact : f b + 2 * e ≡ f y + l k) where
    pub spend_shown : (a : ℕ) → spend (cls b) spent a ≡ true → Spent t (shorter t Z e l) (lower In Z e f) cls a
    spend_shown a q = ⊎_elim
        (λ s. stays a (λ g. both_ways (spent a) (ap spent g ∙ unspent) s) (shown a s))
        (λ s. made a (eqb-true a (cls b) s))
        (or_cases (spent a) (eqb a (cls b)) q)
      where
        ends_x : (k x y : ℕ) → k < size t → Side t k x y → In x ≡ true
        ends_x k x y h s = ends k y x h (side_turn t k x y s)

        stays : (a : ℕ) → (a ≡ cls b → ⊥) → Spent t l f cls a → Spent t (shorter t Z e l) (lower In Z e f) cls a
        stays a ne d =
            let iy = ends d.by d.x d.y d.below d.side in
            spent_stays t l f cls In Z e a d (ends_x d.by d.x d.y d.below d.side) iy
            (is d.x (hx d.by d.x d.y d.below d.side) ∙ ne_eqb (cls d.x) (cls b) (λ g. ne (sym d.inside ∙ g)))
            (fit d.by d.below) (covered d.y iy)

        made : (a : ℕ) → a ≡ cls b → Spent t (shorter t Z e l) (lower In Z e f) cls a
        made a q =
            let in_x = eqb-true (cls x) (cls b) (sym (is x (hx k x y w.below w.side)) ∙ w.inside) in
            let out_y = eqb-false (cls y) (cls b) (sym (is y (within k x y w.below w.side)) ∙ w.outside) in
            let iy = ends k x y w.below w.side in
            spent_made t l f cls In Z e a k x y w (ends_x k x y w.below w.side) iy (in_x ∙ sym q) (λ g. out_y (g ∙ q))
            (omega (arith, (above k x y w).2)) (fit k w.below (exit_cut t Z all k x y w)) (covered y iy w.outside)
