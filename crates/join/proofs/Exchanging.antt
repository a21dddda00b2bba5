-- The exchange along a circuit that the code found. Assumes nothing.
use Rattle.std.proofs.Common.{◌≡◌, ℕ, ◌+◌, ◌*◌, ◌<◌, ◌≤◌, Bool, true, false, not, ◌&&◌, sym, ap, ◌∙◌, subst, ap₂, ⊎_elim, mul_comm, mul-le-mul_left, mul-add, arith}
use Rattle.std.proofs.lemmas.Bool.{cases_Bool}
use Rattle.road.specs.Roads.{Town}
use Rattle.road.specs.Counts.{when, bit, size, Set, cut}
use Rattle.road.specs.Model.{marked}
use Rattle.road.proofs.Cuts.{side_turn}
use Rattle.join.specs.declared.circuit.Circuit as code
use Rattle.join.specs.Joins.{◌⊞◌, single, Joins, cost, outs, shorter}
use Rattle.join.specs.Exchange.{Exit, Stage, Circuit, circuit, go_out}
use Rattle.join.specs.declared.problem.Problem.{Problem}
use Rattle.join.specs.Problems.{town_in, reached_in}
use Rattle.join.specs.Potentials.{Cheaper, lower}
use Rattle.join.specs.Circuits.{Closes}
use Rattle.join.specs.Outcomes.{Inner, Over}
use Rattle.join.proofs.Cost.{cost_short}
use Rattle.join.proofs.Exchange.{exchange_out, exchange_round}
use Rattle.join.proofs.Relaxing.{side_reached}

module _ (t : Town) (T : Set → Bool) (l g : ℕ → ℕ) (b : ℕ) (Z : Set) (e : ℕ) (B : Set) (s : Stage t T l g b Z e B) (v : ℕ) (J : Set) (hJ : Joins t T v J) (way : ℕ → Set)
    (inn : Inner t l b Z way) (c : code.Circuit) (cl : Closes t Z J B c) (C O : Set)
    (eC : C ≡ circuit c.out.street c.back.street (marked c.far) (way b ⊞ way c.out.inner) (way b ⊞ way c.back.inner))
    (eO : O ≡ ((B ⊞ C) ⊞ (way b ⊞ way c.out.inner)) ⊞ single c.out.street) where
  whole : Circuit t l b Z J B
  whole =
      let q₁ = inn c.out.inner cl.out.inside in
      let q₂ = inn c.back.inner cl.back.inside in
      record {
        k₁ = c.out.street;
        x₁ = c.out.inner;
        y₁ = c.out.outer;
        exit₁ = cl.out;
        k₂ = c.back.street;
        x₂ = c.back.inner;
        y₂ = c.back.outer;
        exit₂ = cl.back;
        apart = cl.apart;
        W = marked c.far;
        outer = cl.outside;
        free = cl.free;
        Q₁ = way b ⊞ way c.out.inner;
        inner₁ = q₁.0;
        zero₁ = q₁.1;
        Q₂ = way b ⊞ way c.back.inner;
        inner₂ = q₂.0;
        zero₂ = q₂.1;
      }

  abbrev D : Set
  D = circuit c.out.street c.back.street (marked c.far) (way b ⊞ way c.out.inner) (way b ⊞ way c.back.inner)

  out_is : O ≡ go_out B D (way b ⊞ way c.out.inner) c.out.street
  out_is = eO ∙ ap (λ D. ((B ⊞ D) ⊞ (way b ⊞ way c.out.inner)) ⊞ single c.out.street) eC

  pub exchange_lower : Joins t T c.out.outer O
  unfolding whole
  exchange_lower = subst (Joins t T c.out.outer) (sym out_is) (exchange_out t T l g b Z e B s v J hJ whole)

  pub exchange_fewer : g c.out.outer ≤ cost t l O → (R : Set) → R ≡ J ⊞ C → Joins t T v R × (outs t Z R + 2 ≡ outs t Z J) × (cost t l R + 2 * e ≤ cost t l J)
  unfolding whole
  exchange_fewer high R eR =
      subst (λ R. Joins t T v R × (outs t Z R + 2 ≡ outs t Z J) × (cost t l R + 2 * e ≤ cost t l J)) (sym (eR ∙ ap (λ D. J ⊞ D) eC))
      (exchange_round t T l g b Z e B s v J hJ whole (subst (λ O. g c.out.outer ≤ cost t l O) out_is high))

-- two streets fewer out of Z, for 2 * e less
pub over_fewer : (t : Town) (T : Set → Bool) (In : Set) (l g : ℕ → ℕ) (Z : Set) (e v : ℕ) (J R : Set) → Over t T In l g Z e v J →
    Joins t T v R × (outs t Z R + 2 ≡ outs t Z J) × (cost t l R + 2 * e ≤ cost t l J) → Over t T In l g Z e v R
over_fewer t T In l g Z e v J R o r = record {
  met = o.met;
  joins = r.0;
  cheap = omega (arith, o.cheap, r.2, ap (λ n. e * n) r.1, mul-add e (outs t Z R) 2, mul_comm e 2);
}

-- no street too many is left out of Z
pub over_cheaper : (t : Town) (T : Set → Bool) (In : Set) (l g : ℕ → ℕ) (Z : Set) (e v : ℕ) (J : Set) → Over t T In l g Z e v J → outs t Z J ≤ bit (not (Z v)) → Cheaper t T In l g v J
over_cheaper t T In l g Z e v J o few = record { met = o.met; joins = o.joins; cheap = omega (arith, o.cheap, mul-le-mul_left {m = outs t Z J} {n = bit (not (Z v))} e few) }

-- the end of a street can be come to
pub exit_reached : (p : Problem) (Z J : Set) (k x y : ℕ) → Exit (town_in p) Z J k x y → reached_in p y ≡ true
exit_reached p Z J k x y d = side_reached p k y x d.below (side_turn (town_in p) k x y d.side)

-- what is cheaper after a charge is so before it, once it has no more streets out of Z than v asks for
pub over_from : (t : Town) (T : Set → Bool) (In : Set) (l g : ℕ → ℕ) (Z : Set) (e v : ℕ) (J : Set) → ((k : ℕ) → k < size t → cut t Z k ≡ true → e ≤ l k) →
    ((u : ℕ) → In u ≡ true → Z u ≡ false → e ≤ g u) → Cheaper t T In (shorter t Z e l) (lower In Z e g) v J → Over t T In l g Z e v J
over_from t T In l g Z e v J streets crossings c = record {
  met = c.met;
  joins = c.joins;
  cheap = ⊎_elim
      (λ p. omega (arith, c.cheap, cost_short t l Z e J streets, ap₂ (λ a z. when (a && not z) e) c.met p, ap (λ z. e * bit (not z)) p))
      (λ p. omega (arith, c.cheap, cost_short t l Z e J streets, ap₂ (λ a z. when (a && not z) e) c.met p, ap (λ z. e * bit (not z)) p, crossings v c.met p))
      (cases_Bool (Z v));
}
