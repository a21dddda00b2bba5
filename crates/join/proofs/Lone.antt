-- Where each street out of a class is alone in its component outside, there is at most one. Assumes nothing.
use Rattle.std.proofs.Common.{◌≡◌, ℕ, ◌<◌, ◌≤◌, Bool, true, false, not, ◌&&◌, eqb, sym, refl, ap, ◌∙◌, ⊎_elim, arith}
use Rattle.std.proofs.lemmas.Bool.{eq-eqb, cases_lt, both_ways, and_parts, false_from_ne_true}
use Rattle.road.specs.Roads.{Town}
use Rattle.road.specs.Counts.{◌⊕◌, bit, size, Set, cut}
use Rattle.join.specs.Joins.{Joins, outs}
use Rattle.join.proofs.Joins.{join_uncut}
use Rattle.join.proofs.Cost.{at_least_two, two_out}
use Rattle.join.specs.Exchange.{Stage}
use Rattle.join.proofs.Exchange.{exit_cut, parity}
use Rattle.join.specs.Weights.{outer}
use Rattle.join.specs.Circuits.{Lone, AllLone}
use Rattle.join.proofs.Stages.{cut_ends, ends_cut, exit_is}
use Rattle.join.proofs.Circuits.{outside_free, touch, only_one}

module _ (t : Town) (T : Set → Bool) (l g : ℕ → ℕ) (b : ℕ) (Z : Set) (e : ℕ) (B : Set) (s : Stage t T l g b Z e B)
    (base : Z b ≡ true) (v : ℕ) (J : Set) (hJ : Joins t T v J) where
  module _ (k : ℕ) (h : k < size t) (own : J k ≡ true) (ck : cut t Z k ≡ true) (Y : Set) (p : Lone t Z J B k Y) where
    -- outside streets lead to no crossing of Z
    away : (u : ℕ) → Y u ≡ true → Z u ≡ false
    away u m =
        let w = p.joined u m in
        sym (join_uncut t (outer t Z k) u w.0 Z w.1 (λ i h o. (outside_free t Z J B i (w.2 i h o)).1)) ∙ (cut_ends t Z k ck).2

    -- so v is in Y, as another street of H that leads out of Y would be a second one
    pub lone_has : Y v ≡ true
    lone_has = only_one t Z J B s.clear Y away p.closed T b v base s.joins hJ k _ _ (exit_is t Z J k _ _ h own ck refl refl) p.start none
      where
        none : (i : ℕ) → i < size t → eqb i k ≡ false → ((J i ⊕ B i) && cut t Y i) ≡ false
        none i hi n = false_from_ne_true ((J i ⊕ B i) && cut t Y i) (λ y.
            let q = and_parts (J i ⊕ B i) (cut t Y i) y in
            let z = touch t Z J B s.clear Y away p.closed i hi q.0 q.1 in
            let o = (ends_cut t Z i z.0 z.1 z.2.side z.2.inside z.2.outside).1 in
            p.alone i hi (record { other = λ q. both_ways (eqb i k) n (eq-eqb i k q); own = z.2.own; cuts = exit_cut t Z J i z.0 z.1 z.2; ends = sym (ap Y o) ∙ z.3 }))

  -- two streets are not both alone
  pub lone_one : (k i : ℕ) → k < size t → J k ≡ true → cut t Z k ≡ true → i < size t → J i ≡ true → cut t Z i ≡ true → (Y X : Set) → Lone t Z J B k Y → Lone t Z J B i X → (i ≡ k → ⊥) → ⊥
  lone_one k i hk ok ck hi oi ci Y X p q ne =
      let w = q.joined v (lone_has i hi oi ci X q) in
      let same = join_uncut t (outer t Z i) v w.0 Y w.1 (λ j h o. p.closed j h (w.2 j h o)) in
      p.alone i hi (record { other = ne; own = oi; cuts = ci; ends = same ∙ lone_has k hk ok ck Y p })

  -- at most one is no more than v asks for
  pub one_few : outs t Z J ≤ 1 → outs t Z J ≤ bit (not (Z v))
  one_few few = ⊎_elim (λ many. absurd (let more = at_least_two (not (Z v)) (outs t Z J) (parity t T l g b Z e B s base v J hJ) many in omega arith)) (λ most. most) (cases_lt (bit (not (Z v))) (outs t Z J))

  -- and where all are alone there is at most one
  pub lone_few : AllLone t Z J B (size t) → outs t Z J ≤ bit (not (Z v))
  lone_few all = ⊎_elim (λ many. absurd (two many)) one_few (cases_lt 1 (outs t Z J))
    where
      two : 2 ≤ outs t Z J → ⊥
      two many =
          let p = two_out t Z J many in
          let a = all p.1 p.4.0 p.4.1 p.4.2 in
          let c = all p.0 p.3.0 p.3.1 p.3.2 in
          lone_one p.1 p.0 p.4.0 p.4.1 p.4.2 p.3.0 p.3.1 p.3.2 a.0 c.0 a.1 c.1 p.2
