-- Where a set J has two streets or more out of the class Z there is a circuit for the exchange. Assumes nothing.
use Rattle.std.proofs.Common.{◌≡◌, ℕ, ◌<◌, ◌≤◌, Bool, true, false, not, ◌&&◌, eqb, ◌⊎◌, sym, ap, ◌∙◌, ap₂, inl, inr, ⊎_elim, arith}
use Rattle.std.proofs.lemmas.Bool.{eq-eqb, both_ways, and_parts, not-true, false_from_ne_true, true_from_ne_false}
use Rattle.road.specs.Roads.{Town}
use Rattle.road.specs.Counts.{◌⊕◌, bit, size, Set, cut, Side, forth, back}
use Rattle.road.proofs.Parity.{xor_false, xor_true}
use Rattle.road.proofs.Sums.{par_ext, par_only}
use Rattle.road.proofs.Find.{None, Some, find}
use Rattle.road.proofs.Cuts.{side_cut, side_turn, cut_side}
use Rattle.join.specs.Joins.{◌⊞◌, out, Joins, at, outs, ZeroWay}
use Rattle.join.proofs.Joins.{join_on, join_back, join_between, join_uncut}
use Rattle.join.proofs.Reach.{Way, Reach, reach}
use Rattle.join.proofs.Cost.{at_least_two, two_out}
use Rattle.join.specs.Exchange.{Exit, Stage, Circuit, circuit}
use Rattle.join.specs.Circuits.{outside}
use Rattle.join.proofs.Exchange.{exit_cut, Outcome, parity, exchange_from}

-- outside streets are such in which the sets differ, and are not cut
pub outside_free : (t : Town) (Z J B : Set) (i : ℕ) → outside t Z J B i ≡ true → (J i ⊕ B i ≡ true) × (cut t Z i ≡ false)
outside_free t Z J B i p =
    (grind arith, grind arith)

-- and are all such
outside_make : (t : Town) (Z J B : Set) (i x y : ℕ) → J i ⊕ B i ≡ true → Side t i x y → Z x ≡ false → Z y ≡ false → outside t Z J B i ≡ true
outside_make t Z J B i x y h forth p q = rw (h, p, q)
outside_make t Z J B i x y h back p q = rw (h, p, q)

-- B is not cut. Y has no crossing of Z, and no outside street leads out of it
module _ (t : Town) (Z J B : Set) (clear : (k : ℕ) → k < size t → cut t Z k ≡ true → B k ≡ false) (Y : Set) (away : (u : ℕ) → Y u ≡ true → Z u ≡ false)
    (closed : (i : ℕ) → i < size t → outside t Z J B i ≡ true → cut t Y i ≡ false) where
  off : (x : ℕ) → Z x ≡ true → Y x ≡ false
  off x p = false_from_ne_true (Y x) (λ q. both_ways (Z x) (away x q) p)

  -- a street that leads out of Y, and in which the sets differ, leads into Z
  pub touch : (i : ℕ) → i < size t → J i ⊕ B i ≡ true → cut t Y i ≡ true → (x : ℕ) × (y : ℕ) × Exit t Z J i x y × (Y y ≡ true)
  touch i h hi ci =
      let c = cut_side t i Y ci in
      let out_p = away c.0 c.3 in
      let in_q = true_from_ne_false (Z c.1) (λ n. both_ways (cut t Y i) (closed i h (outside_make t Z J B i c.0 c.1 hi c.2 out_p n)) ci) in
      let ck : cut t Z i ≡ true = side_cut t i c.0 c.1 Z c.2 ∙ ap₂ (λ p q. p ⊕ q) out_p in_q in
      let own = sym (ap (λ z. J i ⊕ z) (clear i h ck) ∙ xor_false (J i)) ∙ hi in
      (c.1, c.0, record { below = h; own = own; side = side_turn t i c.0 c.1 c.2; inside = in_q; outside = out_p }, c.3)

  -- where only k does, v is in Y
  pub only_one : (T : Set → Bool) (b v : ℕ) → Z b ≡ true → Joins t T b B → Joins t T v J → (k x y : ℕ) → Exit t Z J k x y → Y y ≡ true →
      ((i : ℕ) → i < size t → eqb i k ≡ false → ((J i ⊕ B i) && cut t Y i) ≡ false) → Y v ≡ true
  unfolding out
  only_one T b v base hB hJ k x y d in_y none =
      sym (ap (λ z. Y v ⊕ z) (off b base) ∙ xor_false (Y v)) ∙ sym (join_between t T v b J B hJ hB Y)
      ∙ par_ext (size t) (λ i. (J i ⊕ B i) && cut t Y i) (λ i. eqb i k && ((J i ⊕ B i) && cut t Y i)) (λ i h. let n = none i h in grind arith)
      ∙ par_only (size t) (λ i. (J i ⊕ B i) && cut t Y i) k d.below
      ∙ ap₂ (λ p q. p && q) (ap₂ (λ p q. p ⊕ q) d.own (clear k d.below (exit_cut t Z J k x y d)))
      (side_cut t k x y Y d.side ∙ ap₂ (λ p q. p ⊕ q) (off x d.inside) in_y)

module _ (t : Town) (T : Set → Bool) (l g : ℕ → ℕ) (b : ℕ) (Z : Set) (e : ℕ) (B : Set) (s : Stage t T l g b Z e B)
    (base : Z b ≡ true) (way : (x : ℕ) → Z x ≡ true → ZeroWay t l b x) (v : ℕ) (J : Set) (hJ : Joins t T v J) where
  -- what the two sets differ in
  abbrev H : Set
  H k = J k ⊕ B k

  -- the streets of H with both ends outside Z
  abbrev outer : Set
  outer = outside t Z J B

  -- two streets out of Z, joined outside, make a circuit
  closed : (k₁ x₁ y₁ k₂ x₂ y₂ : ℕ) → Exit t Z J k₁ x₁ y₁ → Exit t Z J k₂ x₂ y₂ → (k₁ ≡ k₂ → ⊥) → Way t outer y₁ y₂ → Circuit t l b Z J B
  closed k₁ x₁ y₁ k₂ x₂ y₂ d₁ d₂ ne w =
      let q₁ = way x₁ d₁.inside in
      let q₂ = way x₂ d₂.inside in
      record {
        k₁ = k₁;
        x₁ = x₁;
        y₁ = y₁;
        exit₁ = d₁;
        k₂ = k₂;
        x₂ = x₂;
        y₂ = y₂;
        exit₂ = d₂;
        apart = ne;
        W = w.0;
        outer = w.1;
        free = λ k _ o. outside_free t Z J B k (w.2 k o);
        Q₁ = q₁.0;
        inner₁ = q₁.1;
        zero₁ = q₁.2;
        Q₂ = q₂.0;
        inner₂ = q₂.1;
        zero₂ = q₂.2;
      }

  -- a street out of Z leads on to another one, or to v: the number of those that end in a component outside is even but for v's
  other : (k x y : ℕ) → Exit t Z J k x y → Circuit t l b Z J B ⊎ Way t outer y v
  other k x y d = found (find (size t) (λ i. (H i && cut t Y i) && not (eqb i k)))
    where
      r : Reach t outer y (size t)
      r = reach t outer (size t) (omega arith) y

      Y : Set
      Y = r.set

      away : (x : ℕ) → Y x ≡ true → Z x ≡ false
      away x p = let w = r.way x p in sym (join_uncut t y x w.0 Z w.1 (λ i _ o. (outside_free t Z J B i (w.2 i o)).1)) ∙ d.outside

      -- where k is the only one, v is in the component
      lone : None (size t) (λ i. (H i && cut t Y i) && not (eqb i k)) → Y v ≡ true
      lone none = only_one t Z J B s.clear Y away r.closed T b v base s.joins hJ k x y d r.start
          (λ i h n. let o = none i h in grind arith)

      found : Some (size t) (λ i. (H i && cut t Y i) && not (eqb i k)) ⊎ None (size t) (λ i. (H i && cut t Y i) && not (eqb i k))
          → Circuit t l b Z J B ⊎ Way t outer y v
      found (inr none) = inr (r.way v (lone none))
      found (inl a) =
          let i = a.0 in
          let p = and_parts (H i && cut t Y i) (not (eqb i k)) a.2 in
          let q = and_parts (H i) (cut t Y i) p.0 in
          let z = touch t Z J B s.clear Y away r.closed i a.1 q.0 q.1 in
          let ne = λ (e : k ≡ i). both_ways (eqb i k) (not-true (eqb i k) p.1) (eq-eqb i k (sym e)) in
          inl (closed k x y i z.0 z.1 d z.2 ne (r.way z.1 z.3))

  -- two streets out of Z make a circuit, or lead to v both
  circuit_of : (k x y k' x' y' : ℕ) → Exit t Z J k x y → Exit t Z J k' x' y' → (k ≡ k' → ⊥) → Circuit t l b Z J B
  circuit_of k x y k' x' y' d d' ne = go (other k x y d) (other k' x' y' d')
    where
      go : Circuit t l b Z J B ⊎ Way t outer y v → Circuit t l b Z J B ⊎ Way t outer y' v → Circuit t l b Z J B
      go (inl p) q = p
      go (inr p) (inl q) = q
      go (inr p) (inr q) = closed k x y k' x' y' d d' ne (
        p.0 ⊞ q.0,
        join_on t (at y) v y' p.0 q.0 p.1 (join_back t y' v q.0 q.1),
        λ i w. ⊎_elim (p.2 i) (q.2 i) (xor_true (p.0 i) (q.0 i) w),
      )

  -- a street of J out of Z, with its ends
  exit : (k : ℕ) → k < size t → J k ≡ true → cut t Z k ≡ true → (x : ℕ) × (y : ℕ) × Exit t Z J k x y
  exit k h own c = let d = cut_side t k Z c in (d.0, d.1, record { below = h; own = own; side = d.2; inside = d.3; outside = d.4 })

  -- where two streets of J or more lead out of Z there is a circuit
  find_circuit : 2 ≤ outs t Z J → Circuit t l b Z J B
  find_circuit h =
      let p = two_out t Z J h in
      let d = exit p.0 p.3.0 p.3.1 p.3.2 in
      let d' = exit p.1 p.4.0 p.4.1 p.4.2 in
      circuit_of p.0 d.0 d.1 p.1 d'.0 d'.1 d.2 d'.2 p.2

  -- THE EXCHANGE: where more streets of J lead out of Z than v asks for, there is a circuit, and what comes of it
  pub exchange : bit (not (Z v)) < outs t Z J →
      (p : Circuit t l b Z J B) × Outcome t T l g Z e B v J p.k₁ p.y₁ p.Q₁ (circuit p.k₁ p.k₂ p.W p.Q₁ p.Q₂)
  exchange h =
      let p = find_circuit (at_least_two (not (Z v)) (outs t Z J) (parity t T l g b Z e B s base v J hJ) h) in
      (p, exchange_from t T l g b Z e B s v J hJ p)
