-- The step: a class is charged with e, and the same joins are least for the lengths that are left. Assumes nothing.
use Rattle.std.proofs.Common.{◌≡◌, ℕ, zero, suc, ◌+◌, ◌-◌, ◌*◌, ◌<◌, ◌≤◌, Bool, true, false, not, ◌&&◌, sym, refl, ap, ◌∙◌, inl, inr, arith}
use Rattle.road.specs.Roads.{Town}
use Rattle.road.specs.Counts.{when, bit, odd, Set}
use Rattle.road.proofs.Parity.{bit_most}
use Rattle.join.specs.Joins.{◌⊞◌, Joins, cost, outs, Class, Room, Least, shorter}
use Rattle.join.specs.Potentials.{lower}
use Rattle.join.proofs.Cost.{cost_short}
use Rattle.join.specs.Exchange.{Circuit, circuit, go_out}
use Rattle.join.proofs.Exchange.{Outcome, parity}
use Rattle.join.proofs.Circuits.{exchange}
use Rattle.join.proofs.Classes.{stage, fits}

-- what is left at a crossing of In
pub lower_in : (In Z : Set) (e : ℕ) (f : ℕ → ℕ) (u : ℕ) → In u ≡ true → lower In Z e f u ≡ f u - when (not (Z u)) e
lower_in In Z e f u iu = ap (λ a. f u - when (a && not (Z u)) e) iu

module _ (t : Town) (T : Set → Bool) (In : Set) (l f : ℕ → ℕ) (K : ℕ → Set) (m : Least t T In l f K)
    (b : ℕ) (ib : In b ≡ true) (Z : Set) (c : Class t l b Z) (e : ℕ) (pos : 1 ≤ e) (room : Room t l f b Z e) where
  -- a better join, with two streets fewer out of Z
  abbrev Better : ℕ → Set → Type 0
  Better u J = (J' : Set) × Joins t T u J' × (outs t Z J' + 2 ≡ outs t Z J) × (cost t l J' + 2 * e ≤ cost t l J)

  -- the exchange makes one, as least costs are not too high
  better : (u : ℕ) (J : Set) → Joins t T u J → bit (not (Z u)) < outs t Z J → Better u J
  better u J hJ h = go (exchange t T l f b Z e (K b) (stage t T In l f K m b ib Z c e pos room) c.base c.way u J hJ h)
    where
      go : (p : Circuit t l b Z J (K b)) × Outcome t T l f Z e (K b) u J p.k₁ p.y₁ p.Q₁ (circuit p.k₁ p.k₂ p.W p.Q₁ p.Q₂) → Better u J
      go (p, inl a) =
          let N = go_out (K b) (circuit p.k₁ p.k₂ p.W p.Q₁ p.Q₂) p.Q₁ p.k₁ in
          let w = m.low p.y₁ N (m.ends p.k₁ p.x₁ p.y₁ p.exit₁.below p.exit₁.side) a.0 in
          absurd (omega (arith, a.1))
      go (p, inr a) = (J ⊞ circuit p.k₁ p.k₂ p.W p.Q₁ p.Q₂, a.0, a.1, a.2)

  -- the parity of the streets out of Z
  turn : (u : ℕ) (J : Set) → Joins t T u J → odd (outs t Z J) ≡ not (Z u)
  turn = parity t T l f b Z e (K b) (stage t T In l f K m b ib Z c e pos room) c.base

  -- a join costs e more than the least for each street out of Z, but for the one that its end asks for; by induction on their number
  pub charge : (n : ℕ) (u : ℕ) (J : Set) → In u ≡ true → Joins t T u J → outs t Z J ≡ n → f u + e * outs t Z J ≤ cost t l J + when (not (Z u)) e
  charge zero u J iu hJ q = rw q (omega (arith, m.low u J iu hJ))
  charge (suc zero) u J iu hJ q =
      let o : not (Z u) ≡ true = sym (turn u J hJ) ∙ ap odd q in
      rw (q, o) (omega (arith, m.low u J iu hJ))
  charge (suc (suc n)) u J iu hJ q =
      let r = better u J hJ (omega (arith, bit_most (not (Z u)))) in
      let i = charge n u r.0 iu r.1 (omega (arith, r.2)) in
      let e₁ = ap (λ n. e * n) r.2 in
      omega (arith, r.3)

  -- a least join has one street out of Z if it leads out, else none
  just : (z : Bool) (n : ℕ) → odd n ≡ z → e * n ≤ when z e → e * n ≡ when z e
  just z zero q h = rw (sym q) (omega arith)
  just z (suc zero) q h = rw (sym q) (omega arith)
  just true (suc (suc n)) q h = omega arith
  just false (suc (suc n)) q h = omega arith

  -- it gets cheaper by what its end is charged
  met : (u : ℕ) → In u ≡ true → cost t (shorter t Z e l) (K u) + when (not (Z u)) e ≡ f u
  met u iu =
      let a = charge (outs t Z (K u)) u (K u) iu (m.joins u iu) refl in
      let s = cost_short t l Z e (K u) (fits t T In l f K m b ib Z c e pos room) in
      let j = just (not (Z u)) (outs t Z (K u)) (turn u (K u) (m.joins u iu)) (omega (arith, m.costs u iu)) in
      omega (arith, m.costs u iu)

  -- no least cost is charged with more than it is
  pub enough : (u : ℕ) → In u ≡ true → when (not (Z u)) e ≤ f u
  enough u iu = omega (arith, met u iu)

  -- the same joins are least for the shorter lengths
  pub still : Least t T In (shorter t Z e l) (lower In Z e f) K
  still = record { ends = m.ends; joins = m.joins; costs = λ u iu. omega (arith, met u iu, lower_in In Z e f u iu); low = low }
    where
      low : (u : ℕ) (J : Set) → In u ≡ true → Joins t T u J → lower In Z e f u ≤ cost t (shorter t Z e l) J
      low u J iu hJ = omega (arith, lower_in In Z e f u iu, charge (outs t Z J) u J iu hJ refl, cost_short t l Z e J (fits t T In l f K m b ib Z c e pos room))
