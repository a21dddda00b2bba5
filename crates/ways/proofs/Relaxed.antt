-- A way made shorter over one leg. Assumes nothing.
use Rattle.std.proofs.Common.{◌≡◌, ℕ, ◌+◌, ◌-◌, ◌*◌, ◌<◌, ◌≤◌, true, List, [], ◌∷◌, ◌++◌, length, get_or, replicate, is_some, Some, None, vec_items, Option, sym, refl, ap, ◌∙◌, subst, ⊎_elim, arith}
use Rattle.std.specs.Vec.{with_item}
use Rattle.std.proofs.lemmas.List.{length-set, length-replicate, get_or-replicate, get_or_past, get_or-set_same, get_or-set_other}
use Rattle.std.proofs.lemmas.Bool.{cases_eq, cases_lt, ltb-true}
use Rattle.road.specs.declared.Leg.{Leg}
use Rattle.road.specs.Roads.{Town, Drive, stay, street, from, into, far}
use Rattle.road.specs.Counts.{bit, sum, size}
use Rattle.road.proofs.Parity.{bit_most}
use Rattle.road.proofs.Sums.{sum_point, sum_le, sum_ones}
use Rattle.road.proofs.Drives.{drive_push, far_push}
use Rattle.ways.specs.declared.way.Way.{Way}
use Rattle.ways.specs.declared.ways.Ways.{Ways}
use Rattle.ways.specs.Shown.{to, Drives}
use Rattle.ways.specs.Relaxed.{shorter, AtMost, come, Come, weight, weights}

-- with w as the way to y
abbrev pub with_way : Ways → ℕ → Way → Ways
with_way ws y w = record { start = ws.start; ways = with_item ws.ways y (Some w) }

-- no way is long
pub come_most : (ws : Ways) → come ws ≤ 100
come_most ws =
    omega (arith, sum_le 100 (λ v. bit (is_some (to ws v))) (λ _. 1) (λ v _. bit_most (is_some (to ws v))), sum_ones 100)

pub way_low : (t : Town) (ws : Ways) → Come t ws → (v : ℕ) (w : Way) → to ws v ≡ Some w → w.length ≤ 10000000
way_low t ws c v w e = omega (arith, c.low v w e, come_most ws)

module _ (t : Town) (ws : Ways) (c : Come t ws) (y : ℕ) (w : Way) (below : y < t.crossings) where
  here : to (with_way ws y w) y ≡ Some w
  here = get_or-set_same (vec_items ws.ways) y (Some w) None (omega (arith, c.places))

  there : (v : ℕ) → (v ≡ y → ⊥) → to (with_way ws y w) v ≡ to ws v
  there v ne = get_or-set_other (vec_items ws.ways) y v (Some w) None ne

  -- what is added up over the crossings changes at y only
  sum_up : (f : Option Way → ℕ) (d : ℕ) → f (Some w) ≡ f (to ws y) + d → sum 100 (λ v. f (to (with_way ws y w) v)) ≡ sum 100 (λ v. f (to ws v)) + d
  sum_up f d e =
      sum_point 100 y d (λ v. f (to (with_way ws y w) v)) (λ v. f (to ws v)) (omega (arith, c.most)) (ap f here ∙ e) (λ v _ ne. ap f (there v (λ q. ne (sym q))))

  sum_down : (f : Option Way → ℕ) (d : ℕ) → f (to ws y) ≡ f (Some w) + d → sum 100 (λ v. f (to ws v)) ≡ sum 100 (λ v. f (to (with_way ws y w) v)) + d
  sum_down f d e =
      sum_point 100 y d (λ v. f (to ws v)) (λ v. f (to (with_way ws y w) v)) (omega (arith, c.most)) (e ∙ ap (λ n. n + d) (sym (ap f here)))
      (λ v _ ne. sym (ap f (there v (λ q. ne (sym q)))))

  -- the new way is short, and one crossing more is come to if there was none
  Short : Type 0
  Short = (w.length ≤ 100000 * come (with_way ws y w)) × (come ws ≤ come (with_way ws y w)) × (weights (with_way ws y w) < weights ws)

  short : w.length ≤ 100000 * come ws + 100000 → shorter w.length (to ws y) ≡ true → Short
  unfolding Short
  short low better = at (to ws y) refl better
    where
      at : (o : Option Way) → to ws y ≡ o → shorter w.length o ≡ true → Short
      at None e b =
          let more = sum_up (λ o. bit (is_some o)) 1 (ap (λ (o : Option Way). bit (is_some o) + 1) (sym e)) in
          let m = come_most ws in
          let less = sum_down weight (100000000 - w.length) (ap weight e ∙ omega arith) in
          (omega arith, omega arith, omega arith)
      at (Some o) e b =
          let s = ltb-true w.length o.length b in
          let more = sum_up (λ o. bit (is_some o)) 0 (ap (λ (o : Option Way). bit (is_some o) + 0) (sym e)) in
          let less = sum_down weight (o.length - w.length) (ap weight e ∙ omega arith) in
          (omega (arith, c.low y o e), omega arith, omega arith)

  -- the start has no shorter way than none at all
  not_home : (o : Option Way) → AtMost o 0 → shorter w.length o ≡ true → ⊥
  not_home None a b = a
  not_home (Some o) a b = omega (arith, ltb-true w.length o.length b)

  pub come_set : Drives t ws.start y w → w.length ≤ 100000 * come ws + 100000 → shorter w.length (to ws y) ≡ true →
      Come t (with_way ws y w) × (weights (with_way ws y w) < weights ws)
  unfolding Short
  come_set d low better = (
    record {
      places = length-set (vec_items ws.ways) y (Some w) ∙ c.places;
      most = c.most;
      home = ⊎_elim (λ e. absurd (not_home (to ws y) (subst (λ v. AtMost (to ws v) 0) e c.home) better))
          (λ ne. subst (λ (o : Option Way). AtMost o 0) (sym (there ws.start ne)) c.home) (cases_eq ws.start y);
      ways = λ v o e. ⊎_elim (λ q. ways_here v o e q) (λ ne. c.ways v o (sym (there v ne) ∙ e)) (cases_eq v y);
      low = λ v o e. ⊎_elim (λ q. low_here v o e q) (λ ne. omega (arith, c.low v o (sym (there v ne) ∙ e), s.1)) (cases_eq v y);
    },
    s.2,
  )
    where
      s : Short
      s = short low better

      same : (v : ℕ) (o : Way) → to (with_way ws y w) v ≡ Some o → v ≡ y → w ≡ o
      same v o e q = let f : Some w ≡ Some o = sym here ∙ ap (to (with_way ws y w)) (sym q) ∙ e in cc

      ways_here : (v : ℕ) (o : Way) → to (with_way ws y w) v ≡ Some o → v ≡ y → Drives t ws.start v o
      ways_here v o e q = subst (Drives t ws.start v) (same v o e q) (subst (λ u. Drives t ws.start u w) (sym q) d)

      low_here : (v : ℕ) (o : Way) → to (with_way ws y w) v ≡ Some o → v ≡ y → o.length ≤ 100000 * come (with_way ws y w)
      low_here v o e q = omega (arith, ap (λ (z : Way). z.length) (same v o e q), s.0)

-- a way over one leg more, to where it ends
pub come_more : (t : Town) (ws : Ways) → Come t ws → (l : Leg) → l.by < size t → (v w : Way) → (x y : ℕ) → x ≡ from t l → y ≡ into t l → y < t.crossings →
    to ws x ≡ Some v → (street t l.by).long ≤ 100000 → w.length ≡ v.length + (street t l.by).long → vec_items w.legs ≡ vec_items v.legs ++ l ∷ [] →
    shorter w.length (to ws y) ≡ true → Come t (with_way ws y w) × (weights (with_way ws y w) < weights ws)
come_more t ws c l by v w x y ex ey below there long length legs better =
    come_set t ws c y w below (record {
      drive = subst (λ u. Drive t ws.start (vec_items w.legs) u) (sym ey)
          (subst (λ (ls : List Leg). Drive t ws.start ls (into t l)) (sym legs)
          (drive_push t l (subst (Drive t ws.start (vec_items v.legs)) ex d.drive) by));
      long = ap (far t) legs ∙ far_push t (vec_items v.legs) l ∙ omega (arith, d.long);
    }) (omega (arith, c.low x v there)) better
  where
    d : Drives t ws.start x v
    d = c.ways x v there

abbrev pub no_way : Option Way
no_way = None

-- only the way to the start
pub come_start : (t : Town) (ws : Ways) (w : Way) → t.crossings ≤ 100 → vec_items ws.ways ≡ replicate t.crossings None → ws.start < t.crossings →
    w.length ≡ 0 → vec_items w.legs ≡ [] → Come t (with_way ws ws.start w)
unfolding far
come_start t ws w most blank below none stays = record {
  places = length-set items s (Some w) ∙ count;
  most = most;
  home = subst (λ (o : Option Way). AtMost o 0) (sym here) (omega arith);
  ways = λ v o e. ⊎_elim (λ q. subst (Drives t s v) (same v o e q) (subst (λ u. Drives t s u w) (sym q) staying)) (λ ne. absurd (other v o e ne)) (cases_eq v s);
  low = λ v o e. ⊎_elim (λ q. omega (arith, ap (λ (z : Way). z.length) (same v o e q))) (λ ne. absurd (other v o e ne)) (cases_eq v s);
}
  where
    items : List (Option Way)
    items = vec_items ws.ways

    s : ℕ
    s = ws.start

    count : length items ≡ t.crossings
    count = ap length blank ∙ length-replicate t.crossings None

    here : to (with_way ws s w) s ≡ Some w
    here = get_or-set_same items s (Some w) None (omega (arith, count, below))

    same : (v : ℕ) (o : Way) → to (with_way ws s w) v ≡ Some o → v ≡ s → w ≡ o
    same v o e q = let f : Some w ≡ Some o = sym here ∙ ap (to (with_way ws s w)) (sym q) ∙ e in cc

    nowhere : (v : ℕ) → get_or (replicate t.crossings no_way) v None ≡ no_way
    nowhere v =
        ⊎_elim (get_or-replicate t.crossings v no_way None) (λ ge. get_or_past (replicate t.crossings no_way) v None (omega (arith, length-replicate t.crossings no_way)))
        (cases_lt v t.crossings)

    other : (v : ℕ) (o : Way) → to (with_way ws s w) v ≡ Some o → (v ≡ s → ⊥) → ⊥
    other v o e ne =
        let f : None ≡ Some o = sym (nowhere v) ∙ ap (λ (xs : List (Option Way)). get_or xs v None) (sym blank) ∙ sym (get_or-set_other items s v (Some w) None ne) ∙ e in
        cc

    staying : Drives t s s w
    staying = record { drive = subst (λ (ls : List Leg). Drive t s ls s) (sym stays) (stay s); long = ap (far t) stays ∙ sym none }
