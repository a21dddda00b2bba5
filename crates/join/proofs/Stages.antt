-- One stage of a pass: what a class can be charged, and what is left after it. Assumes nothing.
use Rattle.std.proofs.Common.{◌≡◌, ℕ, zero, suc, ◌+◌, ◌*◌, ◌%◌, ◌<◌, ◌≤◌, Bool, true, false, not, eqb, sym, refl, ap, ◌∙◌, ap₂, arith}
use Rattle.std.proofs.Math.Nat.{le-mul_of_pos_right}
use Rattle.std.proofs.lemmas.Bool.{both_ways, eqb-true, eq-eqb, not-true, false_from_ne_true}
use Rattle.road.specs.Roads.{Town}
use Rattle.road.specs.Counts.{◌⊕◌, odd, size, one, two, Set, cut, Side, forth, back}
use Rattle.road.proofs.Parity.{xor_self}
use Rattle.road.proofs.Cuts.{side_cut, side_turn, cut_side}
use Rattle.join.specs.Weights.{end_of, inner, outer}
use Rattle.join.specs.Joins.{◌⊞◌, single, Joins, at, cost, outs, Zero, ZeroWay, Class, Room, shorter}
use Rattle.join.proofs.Joins.{join_on, join_back, join_between, join_uncut, side_join}
use Rattle.join.proofs.Cost.{cost_drop, cost_zero, cost_none, outs_odd, cost_short}
use Rattle.join.specs.Exchange.{Exit, Stage}
use Rattle.join.proofs.Exchange.{border, over_joins, over_cost}
use Rattle.join.specs.Potentials.{Potential, Cheaper, lower, Lowest, slack}

module _ (t : Town) (T : Set → Bool) (In : Set) (l g : ℕ → ℕ) (K : ℕ → Set) (lv : Potential t T In l g K) where
  -- g is the same along streets of no length
  pub flat : (b x : ℕ) → ZeroWay t l b x → g x ≡ g b
  flat b x w = eqb-true (g x) (g b) (sym (join_uncut t b x w.0 S w.1 (λ k h o. uncut k h (w.2 k h o))) ∙ eq-eqb (g b) (g b) refl)
    where
      S : Set
      S v = eqb (g v) (g b)

      level : (k : ℕ) → k < size t → l k ≡ 0 → g (one t k) ≡ g (two t k)
      level k h z = omega (arith, lv.near k (one t k) (two t k) h forth, lv.near k (two t k) (one t k) h back)

      uncut : (k : ℕ) → k < size t → l k ≡ 0 → cut t S k ≡ false
      uncut k h z = ap (λ n. eqb n (g b) ⊕ eqb (g (two t k)) (g b)) (level k h z) ∙ xor_self (eqb (g (two t k)) (g b))

  -- a set with no cut street has all crossings of In, or none
  pub whole : (Z : Set) (u v : ℕ) → In u ≡ true → In v ≡ true → ((k : ℕ) → k < size t → cut t Z k ≡ false) → Z u ≡ Z v
  whole Z u v hu hv none =
      join_uncut t u v (K u ⊞ K v) Z (join_between t T u v (K u) (K v) (lv.joins u hu) (lv.joins v hv)) (λ k h _. none k h)

  module _ (b : ℕ) (Z : Set) (cl : Class t l b Z) (base : Lowest In g b) where
    pub flat_in : (x : ℕ) → Z x ≡ true → g x ≡ g b
    flat_in x h = flat b x (cl.way x h)

    long_out : (k x y : ℕ) → k < size t → Side t k x y → Z x ≡ true → Z y ≡ false → 0 < l k
    long_out k x y h s p q = cl.long k h (side_cut t k x y Z s ∙ ap₂ (λ a c. a ⊕ c) p q)

    -- a street out of Z leaves room for 2 at least
    pub room_two : (k x y : ℕ) → k < size t → Side t k x y → Z x ≡ true → Z y ≡ false → g b + 2 ≤ g y + l k
    room_two k x y h s p q =
        omega (arith, flat_in x p, lv.even k x y h s, base.least y (lv.ends k y x h (side_turn t k x y s)), long_out k x y h s p q)

    -- and for no more than twice its length
    pub room_long : (e : ℕ) → Room t l g b Z e → (k : ℕ) → k < size t → cut t Z k ≡ true → e ≤ l k
    room_long e room k h c =
        let d = cut_side t k Z c in
        omega (arith, room k d.0 d.1 h d.2 d.3 d.4, lv.near k d.0 d.1 h d.2, flat_in d.0 d.3)

    -- the set for b has a street out of Z, or there is a stage
    pub stage : (e : ℕ) → Room t l g b Z e → ((k : ℕ) → k < size t → cut t Z k ≡ true → K b k ≡ false) → Stage t T l g b Z e (K b)
    stage e room clear = record {
      joins = lv.joins b base.met;
      low = lv.low b base.met;
      long = cl.long;
      room = room;
      clear = clear;
    }

    -- the set for b has a street out of Z
    pub better_over : (k x y : ℕ) (Q : Set) → Exit t Z (K b) k x y → Joins t (at b) x Q → Zero t l Q → Cheaper t T In l g y ((K b ⊞ Q) ⊞ single k)
    better_over k x y Q d j z = record {
      met = in_y;
      joins = over_joins t T l b Z (K b) Q k x y cl.long d j z (lv.joins b base.met);
      cheap = omega (
        arith,
        over_cost t T l b Z (K b) Q k x y cl.long d j z,
        lv.low b base.met,
        base.least y in_y,
        long_out k x y d.below d.side d.inside d.outside,
      );
    }
      where
        in_y : In y ≡ true
        in_y = lv.ends k y x d.below (side_turn t k x y d.side)

    -- the set for b has a street with a length inside Z
    pub better_loop : (k x y : ℕ) (Q R : Set) → k < size t → Side t k x y → K b k ≡ true → 0 < l k → Joins t (at b) x Q → Zero t l Q → Joins t (at b) y R → Zero t l R →
        Cheaper t T In l g b (((K b ⊞ Q) ⊞ single k) ⊞ R)
    better_loop k x y Q R h sd own pos jQ zQ jR zR = record {
      met = base.met;
      joins = join_on t T y b ((K b ⊞ Q) ⊞ single k) R
          (join_on t T x y (K b ⊞ Q) (single k) (join_on t T b x (K b) Q (lv.joins b base.met) jQ) (side_join t k x y h sd)) (join_back t b y R jR);
      cheap = omega (arith, cost_zero t l ((K b ⊞ Q) ⊞ single k) R zR, cost_drop t l (K b ⊞ Q) k h still, cost_zero t l (K b) Q zQ, lv.low b base.met);
    }
      where
        still : (K b ⊞ Q) k ≡ true
        still = ap₂ (λ p q. p ⊕ q) own (false_from_ne_true (Q k) (λ y. omega (arith, zQ k h y)))

    -- the set for b costs nothing
    pub better_free : Zero t l (K b) → 0 < g b → Cheaper t T In l g b (K b)
    better_free z some = record { met = base.met; joins = lv.joins b base.met; cheap = omega (arith, cost_none t l (K b) z) }

    -- no street leads out of Z, and b has no potential
    pub done : g b ≡ 0 → ((k : ℕ) → k < size t → cut t Z k ≡ false) → (u : ℕ) → In u ≡ true → g u ≡ 0
    done nothing none u hu = flat_in u (sym (whole Z b u base.met hu none) ∙ cl.base) ∙ nothing

    -- and so all crossings are in Z
    pub all_in : ((k : ℕ) → k < size t → cut t Z k ≡ false) → (u : ℕ) → In u ≡ true → Z u ≡ true
    all_in none u hu = sym (whole Z b u base.met hu none) ∙ cl.base

    module _ (e : ℕ) (s : Stage t T l g b Z e (K b)) where
      -- an odd number of streets of the set for a crossing outside lead out of Z
      outs_some : (u : ℕ) → In u ≡ true → Z u ≡ false → 1 ≤ outs t Z (K u)
      outs_some u hu hz = pos (outs t Z (K u)) (outs_odd t Z (K u) ∙ lv.joins u hu Z ∙ ap₂ (λ a c. a ⊕ c) (border t T l g b Z e (K b) s cl.base) hz)
        where
          pos : (n : ℕ) → odd n ≡ true → 1 ≤ n
          pos zero q = absurd (both_ways false refl q)
          pos (suc n) q = omega arith

      short : (J : Set) → cost t (shorter t Z e l) J + e * outs t Z J ≡ cost t l J
      short J = cost_short t l Z e J (room_long e s.room)

      -- so g is at least e there, and can be lowered
      low_out : (u : ℕ) → In u ≡ true → Z u ≡ false → cost t (shorter t Z e l) (K u) + e ≤ g u
      low_out u hu hz = let m = outs_some u hu hz in omega (arith, short (K u), lv.low u hu, le-mul_of_pos_right {m = outs t Z (K u)} e m)

      pub charge_fits : (u : ℕ) → In u ≡ true → Z u ≡ false → e ≤ g u
      charge_fits u hu hz = omega (arith, low_out u hu hz)

      -- what is left after the charge
      abbrev l' : ℕ → ℕ
      l' = shorter t Z e l

      abbrev g' : ℕ → ℕ
      g' = lower In Z e g

      module _ (k x y : ℕ) (h : k < size t) (sd : Side t k x y) where
        in_x : In x ≡ true
        in_x = lv.ends k x y h sd

        in_y : In y ≡ true
        in_y = lv.ends k y x h (side_turn t k x y sd)

        -- the potentials at the ends of a street
        ends_on : (g' y ≤ g' x + l' k) × ((g' x + g' y + l' k) % 2 ≡ 0)
        ends_on =
            let reached_x = in_x in
            let reached_y = in_y in
            let cuts = side_cut t k x y Z sd in
            let near = lv.near k x y h sd in
            let even = lv.even k x y h sd in
            let fits : cut t Z k ≡ true → e ≤ l k = room_long e s.room k h in
            let low_x = charge_fits x in_x in
            let low_y = charge_fits y in_y in
            let same = flat_in y in
            let room = s.room k y x h (side_turn t k x y sd) in
            (grind arith, grind arith)

      low_on : (u : ℕ) → In u ≡ true → cost t l' (K u) ≤ g' u
      low_on u hu = let sum = short (K u) in let low = lv.low u hu in let out = low_out u hu in grind arith

      -- after the charge they are potentials again
      pub level_on : Potential t T In (shorter t Z e l) (lower In Z e g) K
      level_on = record {
        ends = lv.ends;
        joins = lv.joins;
        low = low_on;
        near = λ k x y h sd. (ends_on k x y h sd).0;
        even = λ k x y h sd. (ends_on k x y h sd).1;
      }

-- a cut street leads from its inner end to its outer end
pub cut_ends : (t : Town) (Z : Set) (k : ℕ) → cut t Z k ≡ true → Side t k (inner t Z k) (outer t Z k) × (Z (inner t Z k) ≡ true) × (Z (outer t Z k) ≡ false)
cut_ends t Z k c = go (Z (one t k)) refl
  where
    go : (a : Bool) → Z (one t k) ≡ a → Side t k (end_of t k (not a)) (end_of t k a) × (Z (end_of t k (not a)) ≡ true) × (Z (end_of t k a) ≡ false)
    go true e = (forth, e, not-true (Z (two t k)) (ap (λ z. z ⊕ Z (two t k)) (sym e) ∙ c))
    go false e = (back, ap (λ z. z ⊕ Z (two t k)) (sym e) ∙ c, e)

-- a street of J that is cut leads out
pub exit_is : (t : Town) (Z J : Set) (k x y : ℕ) → k < size t → J k ≡ true → cut t Z k ≡ true → x ≡ inner t Z k → y ≡ outer t Z k → Exit t Z J k x y
exit_is t Z J k x y h own cuts ex ey = let d = cut_ends t Z k cuts in rw (ex, ey) (record { below = h; own = own; side = d.0; inside = d.1; outside = d.2 })

-- what holds of a street at its inner and outer end holds either way round
pub ends_cut : (t : Town) (Z : Set) (k x y : ℕ) → Side t k x y → Z x ≡ true → Z y ≡ false → (x ≡ inner t Z k) × (y ≡ outer t Z k)
ends_cut t Z k x y forth p q = (sym (ap (λ a. end_of t k (not a)) p), sym (ap (end_of t k) p))
ends_cut t Z k x y back p q = (sym (ap (λ a. end_of t k (not a)) q), sym (ap (end_of t k) q))

-- the least slack is room
pub room_of : (t : Town) (l g : ℕ → ℕ) (b : ℕ) (Z : Set) (e : ℕ) → Room t l g b Z 1 → ((k : ℕ) → k < size t → cut t Z k ≡ true → e ≤ slack t l g b Z k) → Room t l g b Z e
room_of t l g b Z e one low k x y h s p q =
    let o = (ends_cut t Z k x y s p q).1 in
    omega (arith, one k x y h s p q, low k h (side_cut t k x y Z s ∙ ap₂ (λ a c. a ⊕ c) p q), ap g o)

-- room at a cut street
pub room_cut : (t : Town) (l g : ℕ → ℕ) (b : ℕ) (Z : Set) (e : ℕ) → Room t l g b Z e → (k : ℕ) → k < size t → cut t Z k ≡ true → g b + 2 * e ≤ g (outer t Z k) + l k
room_cut t l g b Z e room k h c = let d = cut_ends t Z k c in room k (inner t Z k) (outer t Z k) h d.0 d.1 d.2

-- where the least slack is
pub slack_at : (t : Town) (T : Set → Bool) (In : Set) (l g : ℕ → ℕ) (K : ℕ → Set) → Potential t T In l g K → (b : ℕ) (Z : Set) → Class t l b Z → Lowest In g b → (k : ℕ) → k < size t →
    cut t Z k ≡ true → g b + 2 * slack t l g b Z k ≡ g (outer t Z k) + l k
slack_at t T In l g K lv b Z cl base k h c =
    let d = cut_ends t Z k c in
    omega (
      arith,
      room_two t T In l g K lv b Z cl base k (inner t Z k) (outer t Z k) h d.0 d.1 d.2,
      lv.even k (inner t Z k) (outer t Z k) h d.0,
      flat_in t T In l g K lv b Z cl base (inner t Z k) d.1,
    )
