-- Closed walks and tours: where a walk is stuck, and tours put into one another. Assumes nothing.
use Rattle.std.proofs.Common.{◌≡◌, ℕ, ◌+◌, ◌*◌, ◌<◌, ◌≤◌, eqb, List, [], ◌∷◌, ◌++◌, length, get_or, drop, sym, refl, ap, ◌∙◌, subst, ⊎_elim, add-mul, mul-zero, zero-mul, arith}
use mathlib.Core.Path.{fun_ext}
use Rattle.std.proofs.lemmas.List.{drop_more, drop_all}
use Rattle.std.proofs.lemmas.Bool.{cases_eq, cases_lt, eq-eqb, ne_eqb}
use Rattle.road.specs.declared.leg.Leg.{Leg}
use Rattle.road.specs.Roads.{Town, from, into, Drive, stay, go, times}
use Rattle.road.specs.Counts.{bit, sum, size, ends, degree}
use Rattle.road.specs.Laws.{no_leg}
use Rattle.road.proofs.Sums.{sum_ext, sum_add, sum_none, le_sum}
use Rattle.road.proofs.Drives.{along_sum, drive_even, drive_degree, leg_ends, drive_append, drive_push, times_append, times_first}
use Rattle.pairs.specs.Walks.{Walk, Forth, Each, Clear, Walked}
use Rattle.pairs.proofs.Walks.{each_append}
use Rattle.round.specs.Tours.{Even, ClosedWalk, ClosedTour}

each_map : (P Q : Leg → Type 0) → ((l : Leg) → P l → Q l) → (ls : List Leg) → Each P ls → Each Q ls
each_map P Q f [] u = tt
each_map P Q f (l ∷ ls) (g, gs) = (f l g, each_map P Q f ls gs)

-- what was driven and what is left, in the degrees
degree_split : (t : Town) (c d : ℕ → ℕ) (ls : List Leg) → ((k : ℕ) → times k ls + d k ≡ c k) → (x : ℕ) → degree t c x ≡ degree t (λ k. times k ls) x + degree t d x
degree_split t c d ls taken x =
    sum_ext (size t) (λ k. c k * ends t k x) (λ k. times k ls * ends t k x + d k * ends t k x) (λ k _. ap (λ n. n * ends t k x) (sym (taken k)) ∙ add-mul (times k ls) (d k) (ends t k x))
    ∙ sum_add (size t) (λ k. times k ls * ends t k x) (λ k. d k * ends t k x)

-- a closed walk leaves even degrees
even_left : (t : Town) (c d : ℕ → ℕ) (v : ℕ) (ls : List Leg) → Even t c → Drive t v ls v → ((k : ℕ) → times k ls + d k ≡ c k) → Even t d
even_left t c d v ls even drive taken x = omega (arith, even x, drive_degree t v ls x drive, degree_split t c d ls taken x)

-- nothing is left where a crossing is clear
pub clear_degree : (t : Town) (d : ℕ → ℕ) (x : ℕ) → Clear t d x (size t) → degree t d x ≡ 0
clear_degree t d x clear = sum_none (size t) (λ k. d k * ends t k x)
    (λ k h. ⊎_elim (λ p. ap (λ n. d k * n) (clear k h p) ∙ mul-zero (d k)) (λ p. let z : d k ≡ 0 = omega arith in ap (λ n. n * ends t k x) z ∙ zero-mul (ends t k x)) (cases_lt 0 (d k)))

-- a walk over even degrees is stuck only where it began
stuck_home : (t : Town) (c d : ℕ → ℕ) (q : Walk) → Even t c → Walked t c d q → q.two ≡ q.one
stuck_home t c d q even g = ⊎_elim (λ e. e) (λ ne. absurd (away ne)) (cases_eq q.two q.one)
  where
    away : (q.two ≡ q.one → ⊥) → ⊥
    away ne =
        omega (
          arith,
          even q.two,
          degree_split t c d q.legs g.taken q.two,
          clear_degree t d q.two g.clear,
          along_sum t (λ k. ends t k q.two) g.drive,
          drive_even t (λ k. ends t k q.two) (λ y. bit (eqb y q.two)) (λ l. omega (arith, leg_ends t l q.two)) g.drive,
          ap bit (ne_eqb q.one q.two (λ e. ne (sym e))),
          ap bit (eq-eqb q.two q.two refl),
        )

-- so it is closed
pub walk_closed : (t : Town) (c d : ℕ → ℕ) (v : ℕ) (q : Walk) → Even t c → (q.one ≡ v) × Walked t c d q → ClosedWalk t c d v q.legs
walk_closed t c d v q even (e, g) =
    let home = stuck_home t c d q even g ∙ e in record {
      drive = subst (λ x. Drive t v q.legs x) home (subst (λ x. Drive t x q.legs q.two) e g.drive);
      taken = g.taken;
      forth = g.forth;
      clear = subst (λ x. Clear t d x (size t)) home g.clear;
    }

-- less left stays clear
clear_less : (t : Town) (d d' : ℕ → ℕ) (x n : ℕ) → ((k : ℕ) → d' k ≤ d k) → Clear t d x n → Clear t d' x n
clear_less t d d' x n less clear k h p = clear k h (omega (arith, less k))

-- a tour that is under way: ls is driven, and ws is to be driven
pub record Touring (t : Town) (c d : ℕ → ℕ) (v : ℕ) (ls ws : List Leg) : Type 0 where
  pub at : ℕ
  pub drive : Drive t v ls at
  pub rest : Drive t at ws v
  pub taken : (k : ℕ) → times k ls + times k ws + d k ≡ c k
  pub even : Even t d
  pub forth : Each (Forth t) ls
  pub forths : Each (Forth t) ws
  pub clear : Clear t d v (size t)
  pub clears : Each (λ l. Clear t d (from t l) (size t)) ls

-- nothing is to be driven
whole_tour : (t : Town) (c d : ℕ → ℕ) (v : ℕ) (ls ws : List Leg) → Touring t c d v ls ws → ws ≡ [] → ClosedTour t c d v ls
unfolding times
whole_tour t c d v ls ws s e = record {
  walk = record {
    drive = subst (λ x. Drive t v ls x) (home (subst (λ (xs : List Leg). Drive t s.at xs v) e s.rest)) s.drive;
    taken = λ k. omega (arith, s.taken k, ap (times k) e);
    forth = s.forth;
    clear = s.clear;
  };
  clears = s.clears;
}
  where
    home : {x y : ℕ} → Drive t x [] y → x ≡ y
    home (stay v) = refl

module _ (t : Town) (c d : ℕ → ℕ) (v : ℕ) (ls : List Leg) (l : Leg) (ws : List Leg) (s : Touring t c d v ls (l ∷ ws)) where
  next_below : l.by < size t
  next_below = at s.rest
    where
      at : {x y : ℕ} → Drive t x (l ∷ ws) y → l.by < size t
      at (go x y l ws h e r) = h

  next_from : from t l ≡ s.at
  next_from = at s.rest
    where
      at : {x y : ℕ} → Drive t x (l ∷ ws) y → from t l ≡ x
      at (go x y l ws h e r) = e

  next_rest : Drive t (into t l) ws v
  next_rest = at s.rest
    where
      at : {x y : ℕ} → Drive t x (l ∷ ws) y → Drive t (into t l) ws y
      at (go x y l ws h e r) = r

  -- a leg that is to be driven is not left
  next_fewer : (n : ℕ) → size t ≤ n → sum n d < sum n c
  next_fewer n few =
      let driven : ℕ → ℕ = λ k. times k ls + times k (l ∷ ws) in
      omega (
        arith,
        sum_ext n (λ k. driven k + d k) c (λ k _. s.taken k),
        sum_add n driven d,
        le_sum n l.by driven (omega (arith, next_below)),
        times_first l ws,
      )

  -- a closed tour from where the next leg begins, and that leg
  next_on : (d' : ℕ → ℕ) (x : ℕ) (ms ls' ls'' : List Leg) → ClosedTour t d d' x ms → x ≡ from t l → ls' ≡ ls ++ ms → ls'' ≡ ls' ++ l ∷ [] → Touring t c d' v ls'' ws
  unfolding times
  next_on d' x ms ls' ls'' q e f f' = rw (f', f) (record {
    at = into t l;
    drive = drive_push t l (drive_append t (subst (λ y. Drive t v ls y) (sym next_from) s.drive) inner) next_below;
    rest = next_rest;
    taken = λ k. omega (arith, s.taken k, q.walk.taken k, times_append k (ls ++ ms) (l ∷ []), times_append k ls ms);
    even = even_left t d d' x ms s.even q.walk.drive q.walk.taken;
    forth = each_append (Forth t) (ls ++ ms) (l ∷ []) (each_append (Forth t) ls ms s.forth q.walk.forth) (s.forths.0, tt);
    forths = s.forths.1;
    clear = clear_less t d d' v (size t) less s.clear;
    clears = each_append now_clear (ls ++ ms) (l ∷ []) (each_append now_clear ls ms (each_map was_clear now_clear (λ m. clear_less t d d' (from t m) (size t) less) ls s.clears) q.clears)
        (subst (λ y. Clear t d' y (size t)) e q.walk.clear, tt);
  })
    where
      was_clear : Leg → Type 0
      was_clear m = Clear t d (from t m) (size t)

      now_clear : Leg → Type 0
      now_clear m = Clear t d' (from t m) (size t)

      less : (k : ℕ) → d' k ≤ d k
      less k = omega (arith, q.walk.taken k)

      inner : Drive t (from t l) ms (from t l)
      inner = subst (λ y. Drive t y ms y) e q.walk.drive

-- what legs drive, and what is left
abbrev pub with_legs : List Leg → (ℕ → ℕ) → ℕ → ℕ
with_legs ws d k = times k ws + d k

-- a tour along the legs ws of a walk over even degrees
module _ {t : Town} {c d₀ : ℕ → ℕ} {v : ℕ} {ws : List Leg} {q : Walk} (same : ws ≡ q.legs) (even : Even t c) (w : (q.one ≡ v) × Walked t c d₀ q) where
  along_walk : ClosedWalk t c d₀ v ws
  along_walk = subst (λ (xs : List Leg). ClosedWalk t c d₀ v xs) (sym same) (walk_closed t c d₀ v q even w)

  walk_counts : with_legs ws d₀ ≡ c
  walk_counts = fun_ext along_walk.taken

  pub touring_start : (ls : List Leg) → ls ≡ [] → Touring t (with_legs ws d₀) d₀ v ls ws
  unfolding times
  touring_start ls e = rw e (record {
    at = v;
    drive = stay v;
    rest = along_walk.drive;
    taken = λ k. omega arith;
    even = even_left t c d₀ v ws even along_walk.drive along_walk.taken;
    forth = tt;
    forths = along_walk.forth;
    clear = along_walk.clear;
    clears = tt;
  })

  module _ {d : ℕ → ℕ} {ls : List Leg} (i : ℕ) (s : Touring t (with_legs ws d₀) d v ls (drop i ws)) where
    -- up to the last leg
    pub touring_end : length ws ≤ i → ClosedTour t c d v ls
    touring_end h = subst (λ (f : ℕ → ℕ). ClosedTour t f d v ls) walk_counts (whole_tour t (with_legs ws d₀) d v ls (drop i ws) s (drop_all i ws h))

    module _ (h : i < length ws) where
      next : Touring t (with_legs ws d₀) d v ls (get_or ws i no_leg ∷ drop (i + 1) ws)
      next = subst (λ (xs : List Leg). Touring t (with_legs ws d₀) d v ls xs) (drop_more ws i no_leg h) s

      pub touring_fewer : (n : ℕ) → size t ≤ n → sum n d < sum n c
      touring_fewer n few =
          subst (λ (f : ℕ → ℕ). sum n d < sum n f) walk_counts (next_fewer t (with_legs ws d₀) d v ls (get_or ws i no_leg) (drop (i + 1) ws) next n few)

      pub touring_on : (d' : ℕ → ℕ) (x : ℕ) (ms ls' ls'' : List Leg) → ClosedTour t d d' x ms → x ≡ from t (get_or ws i no_leg) → ls' ≡ ls ++ ms → ls'' ≡ ls' ++ get_or ws i no_leg ∷ [] →
          Touring t (with_legs ws d₀) d' v ls'' (drop (i + 1) ws)
      touring_on = next_on t (with_legs ws d₀) d v ls (get_or ws i no_leg) (drop (i + 1) ws) next
