-- How far a pass has come: at the start, over a merge of classes, and over a charge. Assumes nothing.
use Rattle.std.proofs.Common.{◌≡◌, ℕ, ◌+◌, ◌<◌, ◌≤◌, Bool, true, false, ◌&&◌, eqb, sym, refl, ap, ◌∙◌, subst, arith}
use Rattle.std.proofs.lemmas.Bool.{both_ways, lt-ltb}
use Rattle.road.specs.Roads.{Town}
use Rattle.road.specs.Counts.{size, one, two, Set, Side, forth, back, all}
use Rattle.road.proofs.Cuts.{side_turn}
use Rattle.join.specs.declared.partition.Classes.{Classes}
use Rattle.join.specs.Joins.{shorter}
use Rattle.join.specs.Exchange.{Exit}
use Rattle.join.specs.Weights.{inner, outer}
use Rattle.join.specs.Classes.{label_in, Labels, Absorbed, class_in}
use Rattle.join.specs.Potentials.{Potential, lower}
use Rattle.join.specs.Turns.{Charged}
use Rattle.join.specs.Progress.{Spent, Progress}
use Rattle.join.proofs.Exchange.{exit_cut}
use Rattle.join.proofs.Labels.{steps_most, unspend, spend, merge_labels, merge_falls, merge_spent, spend_falls, spend_shown}
use Rattle.join.proofs.Stages as stages

-- where each crossing is a class of its own, the labels are labels
pub labels_start : (c : Classes) → ((v : ℕ) → v < 100 → label_in c v ≡ v) → Labels 100 (label_in c)
labels_start c own = record { small = λ v h. omega (arith, own v h); own = λ v h. ap (label_in c) (own v h) }

-- at first no class is spent
pub progress_start : (t : Town) (l g : ℕ → ℕ) (c : Classes) → Labels 100 (label_in c) → Progress t l g c 0
progress_start t l g c lb = record {
  labels = lb;
  spent = λ _. false;
  shown = λ a e. absurd (both_ways false refl e);
  few = omega (arith, steps_most 100 (label_in c) (λ _. false));
}

-- there are at most 300 charges
pub progress_most : (t : Town) (l g : ℕ → ℕ) (c : Classes) (n : ℕ) → Progress t l g c n → n ≤ 300
progress_most t l g c n p = omega (arith, p.few)

module _ (t : Town) (ends : (k : ℕ) → (one t k < 100) × (two t k < 100)) where
  within : (k x y : ℕ) → k < size t → Side t k x y → y < 100
  within k x y h forth = (ends k).1
  within k x y h back = (ends k).0

  -- the class of y came into that of x
  pub progress_merge : (c d : Classes) (x y : ℕ) (link : Set) → x < 100 → y < 100 → (label_in c x ≡ label_in c y → ⊥) →
      Absorbed (label_in c y) (label_in c x) link c d 100 → (l g : ℕ → ℕ) (n : ℕ) → Progress t l g c n → Progress t l g d n
  progress_merge c d x y link hx hy ne p l g n q = record {
    labels = merge_labels 100 (label_in c) (label_in d) q.labels x y hx hy ne p.labels;
    spent = unspend (label_in c x) (label_in c y) q.spent;
    shown = merge_spent 100 (label_in c) (label_in d) q.labels x y hx hy ne p.labels t l g q.spent within q.shown;
    few = omega (arith, q.few, merge_falls 100 (label_in c) (label_in d) q.labels x y hx hy ne p.labels q.spent);
  }

  -- the class of b is charged with all that it bears
  module _ (T : Set → Bool) (In : Set) (l g : ℕ → ℕ) (K : ℕ → Set) (lv : Potential t T In l g K) (Z : Set) (e b : ℕ) (ch : Charged t T In l g K Z e b)
      (c : Classes) (hb : b < 100) (eZ : Z ≡ class_in c b) where
    in_y : (k x y : ℕ) → k < size t → Side t k x y → In y ≡ true
    in_y k x y h s = lv.ends k y x h (side_turn t k x y s)

    above : (k x y : ℕ) → Exit t Z all k x y → (g b ≤ g y) × (1 ≤ l k) × (g x ≡ g b)
    above k x y w = (
      ch.lowest.least y (in_y k x y w.below w.side),
      ch.class.long k w.below (exit_cut t Z all k x y w),
      stages.flat_in t T In l g K lv b Z ch.class ch.lowest x w.inside,
    )

    is_class : (v : ℕ) → v < 100 → Z v ≡ eqb (label_in c v) (label_in c b)
    is_class v h = ap (λ f. f v) eZ ∙ ap (λ a. a && eqb (label_in c v) (label_in c b)) (lt-ltb v 100 h)

    -- a street that leaves no more than the charge leads out of it
    exit : Exit t Z all ch.attained.0 (inner t Z ch.attained.0) (outer t Z ch.attained.0)
    exit = let a = ch.attained in stages.exit_is t Z all a.0 _ _ a.1 refl a.2 refl refl

    pub progress_charge : (l' g' : ℕ → ℕ) → l' ≡ shorter t Z e l → g' ≡ lower In Z e g → (n : ℕ) → Progress t l g c n → Progress t l' g' c (n + 1)
    progress_charge l' g' el eg n q = record {
      labels = q.labels;
      spent = spend (label_in c b) q.spent;
      shown = λ a own. subst (λ l. Spent t l g' (label_in c) a) (sym el) (subst (λ g. Spent t (shorter t Z e l) g (label_in c) a) (sym eg) (left a own));
      few = omega (arith, q.few, spend_falls t 100 within l g (label_in c) q.labels q.spent q.shown b hb Z is_class above);
    }
      where
        left : (a : ℕ) → spend (label_in c b) q.spent a ≡ true → Spent t (shorter t Z e l) (lower In Z e g) (label_in c) a
        left =
            spend_shown t 100 within l g (label_in c) q.labels q.spent q.shown b hb Z is_class above In in_y e
            (stages.room_long t T In l g K lv b Z ch.class ch.lowest e ch.stage.room) (stages.charge_fits t T In l g K lv b Z ch.class ch.lowest e ch.stage)
            ch.attained.0 (inner t Z ch.attained.0) (outer t Z ch.attained.0) exit ch.attained.3
