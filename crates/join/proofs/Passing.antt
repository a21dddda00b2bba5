-- Turn by turn: what a pass keeps. Assumes nothing.
use Rattle.std.proofs.Common.{◌≡◌, ℕ, zero, suc, ◌+◌, ◌<◌, ◌≤◌, true, eqb, ltb, List, [], ◌∷◌, ◌++◌, length, get_or, sym, refl, ap, ◌∙◌, subst, ap₂, vec_items, add-zero, add-one, ⊎_elim, arith}
use Rattle.std.proofs.lemmas.List.{get_or_append_left, get_or_push, length_push}
use Rattle.std.proofs.lemmas.Bool.{and_parts, cases_eq, ltb-true, eqb-true}
use Rattle.std.specs.Global.{Vec}
use Rattle.road.specs.declared.leg.Leg.{Leg}
use Rattle.road.specs.Roads as roads
use Rattle.road.specs.Counts.{size, Set, cut}
use Rattle.road.specs.Model.{marked}
use Rattle.join.specs.declared.level.Level.{Level}
use Rattle.join.specs.declared.partition.Classes.{Classes}
use Rattle.join.specs.declared.prices.Prices.{Prices}
use Rattle.join.specs.declared.turn.Stage.{Stage}
use Rattle.join.specs.declared.turn.Turn.{Turn}
use Rattle.join.specs.declared.turn.Turn.TheVariants.{Better, Charge, Done}
use Rattle.join.specs.Joins.{Joins, at, Zero, shorter}
use Rattle.join.specs.Amounts.{amount}
use Rattle.join.specs.Problems.{town_in, costs_in, start_in, reached_in}
use Rattle.join.specs.Prices.{extra_in, price_in}
use Rattle.join.specs.Borders.{Bordered}
use Rattle.join.specs.Classes.{label_in, class_in, Classed, Kept}
use Rattle.join.specs.Potentials.{lower}
use Rattle.join.specs.Turns.{lengths_at, potential_at, Pass, Settled, Charged, FindsAt, Named, Taken}
use Rattle.join.specs.Certified.{no_stage}
use Rattle.join.specs.Progress.{Progress}
use Rattle.join.specs.Passes.{lengths_after, potentials_after, After, Staged, AllStaged, Run, Listed}
use Rattle.join.proofs.Uniting.{class_way, kept_same}
use Rattle.join.proofs.Charging.{streets_bear, crossings_bear}
use Rattle.join.proofs.Descending.{lengths_more, potentials_more, staged_same}
use Rattle.join.proofs.Writing.{each_push}

-- a stage stays so while classes are merged
pub staged_kept : (q : Prices) (c c' : Classes) (l g : ℕ → ℕ) (s : Stage) → Kept c c' → Staged q c l g s → Staged q c' l g s
staged_kept q c c' l g s k st = record {
  below = st.below;
  base = st.base;
  some = st.some;
  stage = st.stage;
  labels = λ x m. let i = st.labels x m in (i.0, k.labels x s.base i.0 st.below i.1);
  inside = λ x m.
      let i = st.labels x m in
      subst (λ W. Joins (town_in q.problem) (at s.base) x W × Zero (town_in q.problem) l W) (sym (k.ways s.base x st.below i.0 (sym i.1))) (st.inside x m);
  streets = st.streets;
  crossings = st.crossings;
}

-- a class that is charged makes one
pub staged_new : (q : Prices) (v : Level) (c : Classes) (s : Stage) → Pass q v → Classed (town_in q.problem) (lengths_at v) c →
    Charged (town_in q.problem) (start_in q.problem) (reached_in q.problem) (lengths_at v) (potential_at v) (extra_in q) (marked s.marks) (amount s.charge) s.base →
    s.base < 100 → marked s.marks ≡ class_in c s.base → Staged q c (lengths_at v) (potential_at v) s
staged_new q v c s pass cl ch below named = record {
  below = below;
  base = ch.class.base;
  some = ch.some;
  stage = ch.stage;
  labels = λ x m.
      let i = and_parts (ltb x 100) (eqb (label_in c x) (label_in c s.base)) (sym (ap (λ f. f x) named) ∙ m) in
      (ltb-true x 100 i.0, eqb-true (label_in c x) (label_in c s.base) i.1);
  inside = λ x m. class_way (town_in q.problem) (lengths_at v) c s.base x cl below (sym (ap (λ f. f x) named) ∙ m);
  streets = streets_bear q v (marked s.marks) (amount s.charge) s.base pass ch;
  crossings = crossings_bear q v (marked s.marks) (amount s.charge) s.base pass ch;
}

-- what stages leave does not depend on later ones
stage_before : (ss : List Stage) (s : Stage) (i : ℕ) → i < length ss → get_or (ss ++ s ∷ []) i no_stage ≡ get_or ss i no_stage
stage_before ss s i h = get_or_append_left ss (s ∷ []) no_stage i h

lengths_before : (t : roads.Town) (c : ℕ → ℕ) (ss : List Stage) (s : Stage) (n : ℕ) → n ≤ length ss → lengths_after t c (ss ++ s ∷ []) n ≡ lengths_after t c ss n
unfolding lengths_after
lengths_before t c ss s zero h = refl
lengths_before t c ss s (suc n) h =
    ap₂ (λ z l. shorter t (marked z.marks) (amount z.charge) l) (stage_before ss s n (omega arith)) (lengths_before t c ss s n (omega arith))

potentials_before : (In : Set) (f : ℕ → ℕ) (ss : List Stage) (s : Stage) (n : ℕ) → n ≤ length ss → potentials_after In f (ss ++ s ∷ []) n ≡ potentials_after In f ss n
unfolding potentials_after
potentials_before In f ss s zero h = refl
potentials_before In f ss s (suc n) h =
    ap₂ (λ z g. lower In (marked z.marks) (amount z.charge) g) (stage_before ss s n (omega arith)) (potentials_before In f ss s n (omega arith))

module _ (q : Prices) (c c' : Classes) (ss : List Stage) (v v' : Level) (r : Run q c ss v) (kept : Kept c c') (settled : Settled q v' c') where
  -- no class was charged
  pub run_same : lengths_at v' ≡ lengths_at v → potential_at v' ≡ potential_at v → Progress (town_in q.problem) (lengths_at v') (potential_at v') c' (length ss + 0) → Run q c' ss v'
  run_same el eg pr = record {
    settled = settled;
    staged = λ i h. staged_kept q c c' _ _ (get_or ss i no_stage) kept (r.staged i h);
    cuts = r.cuts;
    after = record { streets = el ∙ r.after.streets; crossings = eg ∙ r.after.crossings };
    progress = rw add-zero at pr;
  }

  -- one was
  pub run_charge : (s : Stage) (ss' : List Stage) → ss' ≡ ss ++ s ∷ [] → Staged q c' (lengths_at v) (potential_at v) s →
      (k : ℕ) × (k < size (town_in q.problem)) × (cut (town_in q.problem) (marked s.marks) k ≡ true) →
      lengths_at v' ≡ shorter (town_in q.problem) (marked s.marks) (amount s.charge) (lengths_at v) →
      potential_at v' ≡ lower (reached_in q.problem) (marked s.marks) (amount s.charge) (potential_at v) →
      Progress (town_in q.problem) (lengths_at v') (potential_at v') c' (length ss + 1) → Run q c' ss' v'
  run_charge s ss' e new out el eg pr = subst (λ zs. Run q c' zs v') (sym e) (record {
    settled = settled;
    staged = staged;
    cuts = λ i h. each_push (λ _ z. (k : ℕ) × (k < size (town_in q.problem)) × (cut (town_in q.problem) (marked z.marks) k ≡ true)) ss s no_stage r.cuts out i (omega (arith, long));
    after = after;
    progress = subst (Progress (town_in q.problem) (lengths_at v') (potential_at v') c') (sym (length_push ss s)) pr;
  })
    where
      n : ℕ
      n = length ss

      long : length (ss ++ s ∷ []) ≡ suc n
      long = length_push ss s ∙ add-one n

      here : get_or (ss ++ s ∷ []) n no_stage ≡ s
      here = get_or_push ss s no_stage n refl

      -- the lengths and potentials before the new stage
      lengths_here : lengths_after (town_in q.problem) (costs_in q.problem) (ss ++ s ∷ []) n ≡ lengths_at v
      lengths_here = lengths_before (town_in q.problem) (costs_in q.problem) ss s n (omega arith) ∙ sym r.after.streets

      potentials_here : potentials_after (reached_in q.problem) (price_in q) (ss ++ s ∷ []) n ≡ potential_at v
      potentials_here = potentials_before (reached_in q.problem) (price_in q) ss s n (omega arith) ∙ sym r.after.crossings

      staged : AllStaged q c' (ss ++ s ∷ []) (length (ss ++ s ∷ []))
      staged i h = each_push At ss s no_stage earlier (staged_same q c' _ _ _ _ s lengths_here potentials_here new) i (omega (arith, long))
        where
          At : ℕ → Stage → Type 0
          At j z = Staged q c' (lengths_after (town_in q.problem) (costs_in q.problem) (ss ++ s ∷ []) j) (potentials_after (reached_in q.problem) (price_in q) (ss ++ s ∷ []) j) z

          earlier : (i : ℕ) → i < length ss → At i (get_or ss i no_stage)
          earlier i lt =
              staged_same q c' _ _ _ _ (get_or ss i no_stage) (lengths_before (town_in q.problem) (costs_in q.problem) ss s i (omega arith)) (potentials_before (reached_in q.problem) (price_in q) ss s i (omega arith))
              (staged_kept q c c' _ _ (get_or ss i no_stage) kept (r.staged i lt))

      after : After q (ss ++ s ∷ []) (length (ss ++ s ∷ [])) v'
      after = subst (λ m. After q (ss ++ s ∷ []) m v') (sym long) (record {
        streets = el ∙ ap₂ (λ z l. shorter (town_in q.problem) (marked z.marks) (amount z.charge) l) (sym here) (sym lengths_here) ∙ sym (lengths_more (town_in q.problem) (costs_in q.problem) (ss ++ s ∷ []) n);
        crossings = eg ∙ ap₂ (λ z g. lower (reached_in q.problem) (marked z.marks) (amount z.charge) g) (sym here) (sym potentials_here) ∙ sym (potentials_more (reached_in q.problem) (price_in q) (ss ++ s ∷ []) n);
      })

-- a border more is listed
pub listed_push : (t : roads.Town) (ss ss' : List Stage) (bs bs' : List (Vec Leg)) (s : Stage) (b : Vec Leg) → Listed t ss bs → Bordered t (marked s.marks) (vec_items b) →
    ss' ≡ ss ++ s ∷ [] → bs' ≡ bs ++ b ∷ [] → Listed t ss' bs'
listed_push t ss ss' bs bs' s b l new es eb = subst (λ zs. Listed t zs bs') (sym es) (subst (Listed t (ss ++ s ∷ [])) (sym eb) (record {
  long = omega (arith, length_push ss s, length_push bs b, l.long);
  border = λ i x h is. ⊎_elim
      (λ e. subst (λ Z. Bordered t Z (vec_items x)) (sym (ap (λ (z : Stage). marked z.marks) (get_or_push ss s no_stage i (sym e))))
      (subst (λ y. Bordered t (marked s.marks) (vec_items y)) (sym (is ∙ get_or_push bs b x i (omega (arith, l.long)))) new))
      (λ ne.
      let lt : i < length ss = omega (arith, length_push ss s) in
      subst (λ Z. Bordered t Z (vec_items x)) (sym (ap (λ (z : Stage). marked z.marks) (get_or_append_left ss (s ∷ []) no_stage i lt)))
      (l.border i x lt (is ∙ get_or_append_left bs (b ∷ []) x i (omega (arith, l.long)))))
      (cases_eq i (length ss));
}))

-- a turn that charges no class leaves all as it was
pub taken_same : (q : Prices) (v : Level) (c : Classes) (r : Turn) → Settled q v c → FindsAt q v r → Named (town_in q.problem) c r → ((s : Stage) (ls : Vec Leg) → r ≡ Charge s ls → ⊥) → Taken q v c r v c
taken_same q v c (Better f) s finds named other = record { settled = s; kept = kept_same c; finds = finds; named = named; progress = λ n x. rw add-zero x; leaves = (refl, refl) }
taken_same q v c (Charge z ls) s finds named other = absurd (other z ls refl)
taken_same q v c Done s finds named other = record { settled = s; kept = kept_same c; finds = finds; named = named; progress = λ n x. rw add-zero x; leaves = (refl, refl) }
