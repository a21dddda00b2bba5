-- The exchange, as a program makes it at one stage. B is a set for b that costs no more than g b; no set need be least. A circuit through two streets of J
-- out of the class Z of b either shows that g is too high at a crossing outside, or makes J cheaper. Assumes nothing.
use Rattle.std.proofs.Common.{◌≡◌, ℕ, ◌+◌, ◌*◌, ◌<◌, ◌≤◌, Bool, true, false, not, eqb, ◌⊎◌, sym, refl, ap, ◌∙◌, ap₂, inl, inr, ⊎_elim, arith}
use Rattle.std.proofs.lemmas.Bool.Decides.{nat_tests}
use Rattle.std.proofs.lemmas.Bool.{cases_eq, eq-eqb, ne_eqb, both_ways, cases_lt, false_from_ne_true}
use Rattle.road.specs.Roads.{Town}
use Rattle.road.specs.Counts.{◌⊕◌, odd, size, Set, cut}
use Rattle.road.proofs.Parity.{xor_same}
use Rattle.road.proofs.Cuts.{side_cut, side_turn}
use Rattle.join.specs.Joins.{◌⊞◌, single, Joins, at, cost, outs, Zero, Long}
use Rattle.join.specs.Exchange.{Exit, Stage, Circuit, circuit, go_out}
use Rattle.join.proofs.Joins.{out_none, join_on, join_back, join_even, side_join}
use Rattle.join.proofs.Cost.{cost_zero, cost_drop, cost_swap, outs_odd, outs_two}

pub exit_cut : (t : Town) (Z J : Set) (k x y : ℕ) → Exit t Z J k x y → cut t Z k ≡ true
exit_cut t Z J k x y d = side_cut t k x y Z d.side ∙ ap₂ (λ p q. p ⊕ q) d.inside d.outside

-- what comes of the circuit C: a set for y that costs less than g y, or a set for v that costs 2 * e less than J and has two streets fewer out of Z
abbrev pub Outcome : (t : Town) (T : Set → Bool) (l g : ℕ → ℕ) (Z : Set) (e : ℕ) (B : Set) (v : ℕ) (J : Set) (k y : ℕ) (Q C : Set) → Type 0
Outcome t T l g Z e B v J k y Q C =
    (Joins t T y (go_out B C Q k) × (cost t l (go_out B C Q k) < g y))
    ⊎ (Joins t T v (J ⊞ C) × (outs t Z (J ⊞ C) + 2 ≡ outs t Z J) × (cost t l (J ⊞ C) + 2 * e ≤ cost t l J))

-- streets of no length are not cut
pub zero_uncut : (t : Town) (l : ℕ → ℕ) (Z Q : Set) → Long t l Z → Zero t l Q → (k : ℕ) → k < size t → cut t Z k ≡ true → Q k ≡ false
zero_uncut t l Z Q long zero k h c = false_from_ne_true (Q k) (λ y. omega (arith, long k h c, zero k h y))

-- a set J for b that has a street k out of Z leads on to the street's outer end, for less
module _ (t : Town) (T : Set → Bool) (l : ℕ → ℕ) (b : ℕ) (Z J Q : Set) (k x y : ℕ)
    (long : Long t l Z) (d : Exit t Z J k x y) (in_x : Joins t (at b) x Q) (zero : Zero t l Q) where
  pub over_joins : Joins t T b J → Joins t T y ((J ⊞ Q) ⊞ single k)
  over_joins h = join_on t T x y (J ⊞ Q) (single k) (join_on t T b x J Q h in_x) (side_join t k x y d.below d.side)

  pub over_cost : cost t l ((J ⊞ Q) ⊞ single k) + l k ≡ cost t l J
  over_cost =
      let own : (J ⊞ Q) k ≡ true = ap₂ (λ p q. p ⊕ q) d.own (zero_uncut t l Z Q long zero k d.below (exit_cut t Z J k x y d)) in
      omega (arith, cost_drop t l (J ⊞ Q) k d.below own, cost_zero t l J Q zero)

module _ (t : Town) (T : Set → Bool) (l g : ℕ → ℕ) (b : ℕ) (Z : Set) (e : ℕ) (B : Set) (s : Stage t T l g b Z e B) where
  -- an odd number of the streets that T stands for lead out of Z
  pub border : Z b ≡ true → T Z ≡ true
  border base = xor_same (T Z) true (ap (λ z. T Z ⊕ z) (sym base) ∙ sym (s.joins Z) ∙ out_none t B Z s.clear)

  -- so a set for v has an odd number of streets out of Z, or an even one, as v asks for
  pub parity : Z b ≡ true → (v : ℕ) (J : Set) → Joins t T v J → odd (outs t Z J) ≡ not (Z v)
  parity base v J hJ = outs_odd t Z J ∙ hJ Z ∙ ap (λ x. x ⊕ Z v) (border base)

  module _ (v : ℕ) (J : Set) (hJ : Joins t T v J) (p : Circuit t l b Z J B) where
    abbrev C : Set
    C = circuit p.k₁ p.k₂ p.W p.Q₁ p.Q₂

    cut₁ : cut t Z p.k₁ ≡ true
    cut₁ = exit_cut t Z J p.k₁ p.x₁ p.y₁ p.exit₁

    cut₂ : cut t Z p.k₂ ≡ true
    cut₂ = exit_cut t Z J p.k₂ p.x₂ p.y₂ p.exit₂

    -- the circuit is an even set
    even : Joins t (at b) b C
    even =
        let s₁ = side_join t p.k₁ p.x₁ p.y₁ p.exit₁.below p.exit₁.side in
        let s₂ = side_join t p.k₂ p.y₂ p.x₂ p.exit₂.below (side_turn t p.k₂ p.x₂ p.y₂ p.exit₂.side) in
        let a = join_on t (at b) p.x₁ p.y₁ p.Q₁ (single p.k₁) p.inner₁ s₁ in
        let c = join_on t (at b) p.y₁ p.y₂ (p.Q₁ ⊞ single p.k₁) p.W a p.outer in
        let d = join_on t (at b) p.y₂ p.x₂ ((p.Q₁ ⊞ single p.k₁) ⊞ p.W) (single p.k₂) c s₂ in
        join_on t (at b) p.x₂ b (((p.Q₁ ⊞ single p.k₁) ⊞ p.W) ⊞ single p.k₂) p.Q₂ d (join_back t b p.x₂ p.Q₂ p.inner₂)

    -- only k₁ and k₂ of it are cut
    at_border : (k : ℕ) → k < size t → cut t Z k ≡ true → C k ≡ eqb k p.k₁ ⊕ eqb k p.k₂
    at_border k h c =
        let q₁ = zero_uncut t l Z p.Q₁ s.long p.zero₁ k h c in
        let w = false_from_ne_true (p.W k) (λ y. both_ways (cut t Z k) (p.free k h y).1 c) in
        let q₂ = zero_uncut t l Z p.Q₂ s.long p.zero₂ k h c in
        grind arith

    -- in a street out of Z the sets differ
    differ : (i k x y : ℕ) → Exit t Z J k x y → i ≡ k → J i ⊕ B i ≡ true
    differ i k x y d q = rw q (ap₂ (λ p q. p ⊕ q) d.own (s.clear k d.below (exit_cut t Z J k x y d)))

    -- each street of the circuit has no length, or is in just one of J and B
    swapped : (k : ℕ) → k < size t → C k ≡ true → (l k ≡ 0) ⊎ (J k ⊕ B k ≡ true)
    swapped k h c = ⊎_elim inl
        (λ ne. inr (
        let q₁ = p.zero₁ k h in
        let q₂ = p.zero₂ k h in
        let w = p.free k h in
        let d₁ = differ k p.k₁ p.x₁ p.y₁ p.exit₁ in
        let d₂ = differ k p.k₂ p.x₂ p.y₂ p.exit₂ in
        grind (arith, nat_tests)))
        (cases_eq (l k) 0)

    -- round the circuit, B has k₁
    exit : Exit t Z (B ⊞ C) p.k₁ p.x₁ p.y₁
    exit = record { below = p.exit₁.below; own = own; side = p.exit₁.side; inside = p.exit₁.inside; outside = p.exit₁.outside }
      where
        own : (B ⊞ C) p.k₁ ≡ true
        own = ap₂ (λ p q. p ⊕ q) (s.clear p.k₁ p.exit₁.below cut₁)
            (at_border p.k₁ p.exit₁.below cut₁ ∙ ap₂ (λ p q. p ⊕ q) (eq-eqb p.k₁ p.k₁ refl) (ne_eqb p.k₁ p.k₂ p.apart))

    abbrev N : Set
    N = go_out B C p.Q₁ p.k₁

    -- B round the circuit and out leads to y₁
    pub exchange_out : Joins t T p.y₁ (go_out B (circuit p.k₁ p.k₂ p.W p.Q₁ p.Q₂) p.Q₁ p.k₁)
    exchange_out = over_joins t T l b Z (B ⊞ C) p.Q₁ p.k₁ p.x₁ p.y₁ s.long exit p.inner₁ p.zero₁ (join_on t T b b B C s.joins even)

    -- where that is no cheaper than g says, J round the circuit is cheaper
    pub exchange_round : g p.y₁ ≤ cost t l (go_out B (circuit p.k₁ p.k₂ p.W p.Q₁ p.Q₂) p.Q₁ p.k₁) →
        let D : Set = circuit p.k₁ p.k₂ p.W p.Q₁ p.Q₂ in
        Joins t T v (J ⊞ D) × (outs t Z (J ⊞ D) + 2 ≡ outs t Z J) × (cost t l (J ⊞ D) + 2 * e ≤ cost t l J)
    exchange_round high = (join_on t T v v J C hJ (join_even t b v C even), fewer, cheaper)
      where
        fewer : outs t Z (J ⊞ C) + 2 ≡ outs t Z J
        fewer = outs_two t Z J C p.k₁ p.k₂ p.exit₁.below p.exit₂.below p.apart p.exit₁.own cut₁ p.exit₂.own cut₂ at_border

        cheaper : cost t l (J ⊞ C) + 2 * e ≤ cost t l J
        cheaper =
            let d = p.exit₁ in
            let r = s.room p.k₁ p.x₁ p.y₁ d.below d.side d.inside d.outside in
            let o = over_cost t T l b Z (B ⊞ C) p.Q₁ p.k₁ p.x₁ p.y₁ s.long exit p.inner₁ p.zero₁ in
            omega (arith, cost_swap t l J B C swapped, s.low)

    -- the exchange by a given circuit
    pub exchange_from : Outcome t T l g Z e B v J p.k₁ p.y₁ p.Q₁ (circuit p.k₁ p.k₂ p.W p.Q₁ p.Q₂)
    exchange_from = ⊎_elim (λ low. inl (exchange_out, low)) (λ high. inr (exchange_round high)) (cases_lt (cost t l N) (g p.y₁))
