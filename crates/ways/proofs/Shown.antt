-- Ways that no street makes shorter are shortest. Assumes nothing.
use Rattle.std.proofs.Common.{◌≡◌, ℕ, ◌+◌, ◌<◌, ◌≤◌, List, Some, None, vec_items, Option, refl, ap, ◌∙◌, subst, arith}
use Rattle.road.specs.declared.Leg.{Leg}
use Rattle.road.specs.Roads.{Town, Drive, stay, go, street, from, into, far}
use Rattle.road.specs.Counts.{size}
use Rattle.ways.specs.declared.way.Way.{Way}
use Rattle.ways.specs.declared.ways.Ways.{Ways}
use Rattle.ways.specs.Least.{Apart}
use Rattle.ways.specs.Shown.{to, Drives, Shows, AllShown}
use Rattle.ways.specs.Relaxed.{AtMost, Come, Closed}
use Rattle.ways.proofs.Relaxed.{way_low}

at_most_le : (o : Option Way) (m n : ℕ) → m ≤ n → AtMost o m → AtMost o n
at_most_le None m n h a = a
at_most_le (Some w) m n h a = omega arith

module _ (t : Town) (ws : Ways) (closed : Closed t ws (size t)) where
  over : (v n : ℕ) (l : Leg) → l.by < size t → from t l ≡ v → AtMost (to ws v) n → AtMost (to ws (into t l)) (n + (street t l.by).long)
  over v n l h e a = at (to ws v) refl a
    where
      at : (o : Option Way) → to ws v ≡ o → AtMost o n → AtMost (to ws (into t l)) (n + (street t l.by).long)
      at None q a = absurd a
      at (Some w) q a =
          at_most_le (to ws (into t l)) (w.length + (street t l.by).long) (n + (street t l.by).long) (omega arith) (closed l.by l.back h w (ap (to ws) e ∙ q))

  -- no drive is shorter than the way to where it ends
  at_most_far : (n : ℕ) {v u : ℕ} {ls : List Leg} → Drive t v ls u → AtMost (to ws v) n → AtMost (to ws u) (n + far t ls)
  unfolding far
  at_most_far n (stay v) a = at_most_le (to ws v) n (n + 0) (omega arith) a
  at_most_far n (go v u l ls h e d) a =
      at_most_le (to ws u) ((n + (street t l.by).long) + far t ls) (n + ((street t l.by).long + far t ls)) (omega arith)
      (at_most_far (n + (street t l.by).long) d (over v n l h e a))

  module _ (c : Come t ws) (u : ℕ) where
    short : (ls : List Leg) → Drive t ws.start ls u → AtMost (to ws u) (far t ls)
    short ls d = at_most_le (to ws u) (0 + far t ls) (far t ls) (omega arith) (at_most_far 0 d c.home)

    shown : (o : Option Way) → to ws u ≡ o → Shows t ws.start u o
    shown None e = record {
      drives = λ w q. cc;
      least = λ d. (λ q. cc, λ l. absurd (apart l.some.0 l.some.1));
      none = (λ _. apart, λ _. refl);
    }
      where
        apart : Apart t ws.start u
        apart ls d = subst (λ (o : Option Way). AtMost o (far t ls)) e (short ls d)
    shown (Some w) e = record {
      drives = λ o q. c.ways u o (e ∙ q);
      least = λ d. (
        λ q. let e : w.length ≡ d = cc in record { some = (vec_items w.legs, this.drive, this.long ∙ e); least = λ ls r. omega (arith, low ls r) },
        λ l. ap Some (omega (arith, low l.some.0 l.some.1, l.some.2, l.least (vec_items w.legs) this.drive, this.long)),
      );
      none = (λ q. cc, λ apart. absurd (apart (vec_items w.legs) this.drive));
    }
      where
        this : Drives t ws.start u w
        this = c.ways u w e

        low : (ls : List Leg) → Drive t ws.start ls u → w.length ≤ far t ls
        low ls d = subst (λ (o : Option Way). AtMost o (far t ls)) e (short ls d)

-- ways that are closed under the streets
pub all_shown : (t : Town) (ws : Ways) (start : ℕ) → ws.start ≡ start → Come t ws → Closed t ws (size t) → AllShown t start ws
all_shown t ws start e c closed = record {
  from = e;
  count = c.places;
  ways = λ u _. subst (λ s. Shows t s u (to ws u)) e (shown t ws closed c u (to ws u) refl);
  low = way_low t ws c;
}
