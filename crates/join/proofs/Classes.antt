-- Least joins and a class of crossings that are joined by streets of no length. Assumes nothing.
use Rattle.std.proofs.Common.{◌≡◌, ℕ, ◌+◌, ◌*◌, ◌<◌, ◌≤◌, Bool, true, false, sym, ◌∙◌, ap₂, ⊎_elim, arith}
use Rattle.std.proofs.lemmas.Bool.{cases_lt, false_from_ne_true}
use Rattle.road.specs.Roads.{Town}
use Rattle.road.specs.Counts.{◌⊕◌, size, one, two, Set, cut, Side, forth, back}
use Rattle.road.proofs.Cuts.{cut_side}
use Rattle.join.specs.Joins.{◌⊞◌, single, Joins, cost, Class, Room, Least}
use Rattle.join.proofs.Joins.{join_on, join_back, join_between, join_uncut, side_join}
use Rattle.join.proofs.Cost.{cost_zero, cost_drop, cost_more, cost_none}
use Rattle.join.specs.Exchange.{Exit, Stage}
use Rattle.join.proofs.Exchange.{zero_uncut, over_joins, over_cost}

module _ (t : Town) (T : Set → Bool) (In : Set) (l f : ℕ → ℕ) (K : ℕ → Set) (m : Least t T In l f K)
    (b : ℕ) (ib : In b ≡ true) (Z : Set) (c : Class t l b Z) where
  -- the least cost is the same all over the class
  pub level : (x : ℕ) → In x ≡ true → Z x ≡ true → f x ≡ f b
  level x ix zx =
      let w = c.way x zx in
      let p = m.low x (K b ⊞ w.0) ix (join_on t T b x (K b) w.0 (m.joins b ib) w.1) in
      let q = m.low b (K x ⊞ w.0) ib (join_on t T x b (K x) w.0 (m.joins x ix) (join_back t b x w.0 w.1)) in
      omega (arith, cost_zero t l (K b) w.0 w.2, cost_zero t l (K x) w.0 w.2, m.costs b ib, m.costs x ix)

  -- where no street leads out of the class, nothing costs anything
  module _ (shut : (k : ℕ) → k < size t → cut t Z k ≡ false) where
    -- the class is everywhere
    everywhere : (u : ℕ) → In u ≡ true → Z u ≡ true
    everywhere u iu =
        sym (join_uncut t b u (K b ⊞ K u) Z (join_between t T b u (K b) (K u) (m.joins b ib) (m.joins u iu)) (λ k h _. shut k h)) ∙ c.base

    -- a street of K b that has a length could be left out: its ends are joined by streets of no length
    no_length : (k : ℕ) → k < size t → K b k ≡ true → l k ≡ 0
    no_length k h y = ⊎_elim (λ d. absurd (dearer d)) (λ d. omega arith) (cases_lt 0 (l k))
      where
        dearer : 0 < l k → ⊥
        dearer d =
            let v = c.way (one t k) (everywhere (one t k) (m.ends k (two t k) (one t k) h back)) in
            let w = c.way (two t k) (everywhere (two t k) (m.ends k (one t k) (two t k) h forth)) in
            let n = false_from_ne_true (v.0 k) (λ q. omega (arith, v.2 k h q)) in
            let j = join_on t T b (one t k) (K b) v.0 (m.joins b ib) v.1 in
            let j' = join_on t T (one t k) (two t k) (K b ⊞ v.0) (single k) j (side_join t k (one t k) (two t k) h forth) in
            let j'' = join_on t T (two t k) b ((K b ⊞ v.0) ⊞ single k) w.0 j' (join_back t b (two t k) w.0 w.1) in
            let g = m.low b (((K b ⊞ v.0) ⊞ single k) ⊞ w.0) ib j'' in
            let z₁ = cost_zero t l ((K b ⊞ v.0) ⊞ single k) w.0 w.2 in
            let z₂ = cost_zero t l (K b) v.0 v.2 in
            let z₃ = cost_drop t l (K b ⊞ v.0) k h (ap₂ (λ p q. p ⊕ q) y n) in
            omega (arith, m.costs b ib)

    pub free_of_cost : (u : ℕ) → In u ≡ true → f u ≡ 0
    free_of_cost u iu = level u iu (everywhere u iu) ∙ sym (m.costs b ib) ∙ cost_none t l (K b) no_length

  module _ (e : ℕ) (pos : 1 ≤ e) (room : Room t l f b Z e) where
    -- a join to b that has a street out of Z is dear
    dear : (J : Set) (k x y : ℕ) → Joins t T b J → Exit t Z J k x y → f b + 2 * e ≤ cost t l J
    dear J k x y hJ d =
        let w = c.way x d.inside in
        let j = over_joins t T l b Z J w.0 k x y c.long d w.1 w.2 hJ in
        let o = over_cost t T l b Z J w.0 k x y c.long d w.1 w.2 in
        let g = m.low y ((J ⊞ w.0) ⊞ single k) (m.ends k x y d.below d.side) j in
        omega (arith, room k x y d.below d.side d.inside d.outside)

    -- so the least join to b has none
    clear : (k : ℕ) → k < size t → cut t Z k ≡ true → K b k ≡ false
    clear k h ck = false_from_ne_true (K b k) (λ y. no y (cut_side t k Z ck))
      where
        no : K b k ≡ true → (x : ℕ) × (y : ℕ) × Side t k x y × (Z x ≡ true) × (Z y ≡ false) → ⊥
        no own s =
            let d = dear (K b) k s.0 s.1 (m.joins b ib) (record { below = h; own = own; side = s.2; inside = s.3; outside = s.4 }) in
            omega (arith, m.costs b ib)

    -- least joins are at a stage where the exchange can be made
    pub stage : Stage t T l f b Z e (K b)
    stage = record { joins = m.joins b ib; low = omega (arith, m.costs b ib); long = c.long; room = room; clear = clear }

    -- no street is charged with more than its length
    pub fits : (k : ℕ) → k < size t → cut t Z k ≡ true → e ≤ l k
    fits k h ck =
        let s = cut_side t k Z ck in
        let w = c.way s.0 s.3 in
        let n : (K b ⊞ w.0) k ≡ false = ap₂ (λ p q. p ⊕ q) (clear k h ck) (zero_uncut t l Z w.0 c.long w.2 k h ck) in
        let j = join_on t T b s.0 (K b) w.0 (m.joins b ib) w.1 in
        let j' = join_on t T s.0 s.1 (K b ⊞ w.0) (single k) j (side_join t k s.0 s.1 h s.2) in
        let g = m.low s.1 ((K b ⊞ w.0) ⊞ single k) (m.ends k s.0 s.1 h s.2) j' in
        let a = cost_more t l (K b ⊞ w.0) k h n in
        let z = cost_zero t l (K b) w.0 w.2 in
        omega (arith, room k s.0 s.1 h s.2 s.3 s.4, m.costs b ib)
