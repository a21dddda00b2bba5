-- A class whose least cost is least of all is charged with as much as it bears; then it is spent. Assumes nothing.
use Rattle.std.proofs.Common.{◌≡◌, ℕ, ◌+◌, ◌-◌, ◌*◌, ◌<◌, ◌≤◌, Bool, true, false, not, ◌&&◌, eqb, ◌⊎◌, sym, refl, ap, ◌∙◌, subst, ap₂, inl, inr, ⊎_elim, arith}
use Rattle.std.proofs.lemmas.Bool.{eqb-true, eq-eqb, both_ways, cases_lt}
use Rattle.road.specs.Roads.{Town}
use Rattle.road.specs.Counts.{◌⊕◌, when, odd, size, one, two, Set, cut, Side, all}
use Rattle.road.proofs.Parity.{xor_self, xor_comm, xor_assoc, xor_cancel, xor_swap, xor_and, odd_add, odd_sub, half}
use Rattle.road.proofs.Find.{smallest}
use Rattle.road.proofs.Cuts.{side_cut, side_turn, cut_side}
use Rattle.join.specs.Joins.{ZeroWay, Class, Room, Least, shorter}
use Rattle.join.specs.Weights.{outer}
use Rattle.join.specs.Exchange.{Exit}
use Rattle.join.specs.Potentials.{lower}
use Rattle.join.specs.Progress.{steps_left}
use Rattle.join.proofs.Cost.{cost_odd}
use Rattle.join.proofs.Exchange.{exit_cut, border}
use Rattle.join.proofs.Classes.{level, free_of_cost, stage, fits}
use Rattle.join.proofs.Stages.{ends_cut}
use Rattle.join.proofs.Step.{enough, still}
use Rattle.join.proofs.Labels.{spend, spend_falls, spend_shown}
use Rattle.join.proofs.Merge.{State}

-- how a charge changes the colours of a street
tint : (p₁ p₂ z₁ z₂ o : Bool) → (p₁ ⊕ p₂) ⊕ ((z₁ ⊕ z₂) && o) ≡ (p₁ ⊕ (z₁ && o)) ⊕ (p₂ ⊕ (z₂ && o))
tint p₁ p₂ z₁ z₂ o = ap (λ z. (p₁ ⊕ p₂) ⊕ z) (xor_and z₁ z₂ o) ∙ simp (xor_assoc, xor_swap)

-- and the parity of its length
odd_when_sub : (x : Bool) (n e : ℕ) → (x ≡ true → e ≤ n) → odd (n - when x e) ≡ odd n ⊕ (x && odd e)
odd_when_sub true n e h = odd_sub n e (h refl)
odd_when_sub false n e h = odd_sub n 0 (omega arith)

-- what a charge makes of a state
pub record Charged (t : Town) (T : Set → Bool) (In : Set) (K : ℕ → Set) (l f cls : ℕ → ℕ) (spent : Set) : Type 0 where
  pub Z : Set
  pub e : ℕ
  pub p' : Set
  pub spent' : Set
  pub state : State t T In K (shorter t Z e l) (lower In Z e f) p' cls spent'
  pub falls : steps_left t.crossings cls spent' < steps_left t.crossings cls spent
  pub odd_border : T Z ≡ true
  pub bears : (k : ℕ) → k < size t → cut t Z k ≡ true → e ≤ l k
  pub covers : (u : ℕ) → In u ≡ true → when (not (Z u)) e ≤ f u

module _ (t : Town) (T : Set → Bool) (In : Set) (K : ℕ → Set) (l f : ℕ → ℕ) (p : Set) (cls : ℕ → ℕ) (spent : Set) (st : State t T In K l f p cls spent)
    (within : (k x y : ℕ) → k < size t → Side t k x y → y < t.crossings) (tight : (k : ℕ) → k < size t → l k ≡ 0 → cls (one t k) ≡ cls (two t k))
    (b : ℕ) (hb : b < t.crossings) (ib : In b ≡ true) (nearest : (v : ℕ) → v < t.crossings → In v ≡ true → f b ≤ f v) where
  m : Least t T In l f K
  m = st.least

  -- the class of b
  abbrev pub Z : Set
  Z v = eqb (cls v) (cls b)

  class : Class t l b Z
  class = record { base = eq-eqb (cls b) (cls b) refl; long = long; way = λ x zx. st.ways b x (sym (eqb-true (cls x) (cls b) zx)) }
    where
      long : (k : ℕ) → k < size t → cut t Z k ≡ true → 0 < l k
      long k h ck = ⊎_elim (λ d. d) (λ d. absurd (both_ways (cut t Z k) (same d) ck)) (cases_lt 0 (l k))
        where
          same : l k ≤ 0 → cut t Z k ≡ false
          same d = rw (tight k h (omega arith)) (xor_self (eqb (cls (two t k)) (cls b)))

  -- a street that leads out of the class
  abbrev Leaves : (k x y : ℕ) → Type 0
  Leaves = Exit t Z all

  -- both ends are known
  in_x : (k x y : ℕ) → Leaves k x y → In x ≡ true
  in_x k x y w = m.ends k y x w.below (side_turn t k x y w.side)

  in_y : (k x y : ℕ) → Leaves k x y → In y ≡ true
  in_y k x y w = m.ends k x y w.below w.side

  -- there is room for a charge
  above : (k x y : ℕ) → Leaves k x y → (f b ≤ f y) × (1 ≤ l k) × (f x ≡ f b)
  above k x y w = (
    nearest y (within k x y w.below w.side) (in_y k x y w),
    class.long k w.below (exit_cut t Z all k x y w),
    level t T In l f K m b ib Z class x (in_x k x y w) w.inside,
  )

  -- the parity of the least costs
  f_odd : (u : ℕ) → In u ≡ true → odd (f u) ≡ T p ⊕ p u
  f_odd u iu = ap odd (sym (m.costs u iu)) ∙ cost_odd t l p (K u) st.colour ∙ m.joins u iu p

  -- what there is room for is even
  even : (k x y : ℕ) → Leaves k x y → odd (f y + l k) ≡ odd (f b)
  even k x y w =
      odd_add (f y) (l k)
      ∙ ap₂ (λ p q. p ⊕ q) (f_odd y (in_y k x y w)) (st.colour k w.below ∙ side_cut t k x y p w.side ∙ xor_comm (p x) (p y))
      ∙ xor_assoc (T p) (p y) (p y ⊕ p x) ∙ ap (λ z. T p ⊕ z) (xor_cancel (p y) (p x)) ∙ sym (f_odd x (in_x k x y w)) ∙ ap odd (above k x y w).2

  -- the end of a way out is the end outside
  outer_is : (k x y : ℕ) → Leaves k x y → y ≡ outer t Z k
  outer_is k x y w = (ends_cut t Z k x y w.side w.inside w.outside).1

  module _ (e : ℕ) (pos : 1 ≤ e) (room : Room t l f b Z e) (k₀ x₀ y₀ : ℕ) (w₀ : Leaves k₀ x₀ y₀) (exact : f b + 2 * e ≡ f y₀ + l k₀) where
    -- the state that is left after the charge of e, which street k₀ bears exactly
    charge_state : State t T In K (shorter t Z e l) (lower In Z e f) (λ v. p v ⊕ (Z v && odd e)) cls (spend (cls b) spent)
    charge_state = record {
      least = still t T In l f K m b ib Z class e pos room;
      colour = colour;
      labels = st.labels;
      ways = ways;
      done = spend_shown t t.crossings within l f cls st.labels spent st.done b hb Z (λ v _. refl) above In m.ends e fit covered k₀ x₀ y₀ w₀ exact;
    }
      where
        fit : (k : ℕ) → k < size t → cut t Z k ≡ true → e ≤ l k
        fit = fits t T In l f K m b ib Z class e pos room

        covered : (u : ℕ) → In u ≡ true → Z u ≡ false → e ≤ f u
        covered u iu z = subst (λ a. when (not a) e ≤ f u) z (enough t T In l f K m b ib Z class e pos room u iu)

        colour : (k : ℕ) → k < size t → odd (shorter t Z e l k) ≡ cut t (λ v. p v ⊕ (Z v && odd e)) k
        colour k h =
            odd_when_sub (cut t Z k) (l k) e (fit k h) ∙ ap (λ z. z ⊕ (cut t Z k && odd e)) (st.colour k h)
            ∙ tint (p (one t k)) (p (two t k)) (Z (one t k)) (Z (two t k)) (odd e)

        ways : (v w : ℕ) → cls v ≡ cls w → ZeroWay t (shorter t Z e l) v w
        ways v w q = let a = st.ways v w q in (a.0, a.1, λ k h i. omega (arith, a.2 k h i))

  -- a class can be charged, or nothing costs anything
  pub charge : Charged t T In K l f cls spent ⊎ ((u : ℕ) → In u ≡ true → f u ≡ 0)
  charge = ⊎_elim
      (λ s. inl (go s.0 s.1 s.2 s.3))
      (λ shut. inr (free_of_cost t T In l f K m b ib Z class shut))
      (smallest (size t) (cut t Z) (λ k. f (outer t Z k) + l k))
    where
      go : (k : ℕ) → k < size t → cut t Z k ≡ true → ((i : ℕ) → i < size t → cut t Z i ≡ true → f (outer t Z k) + l k ≤ f (outer t Z i) + l i) →
          Charged t T In K l f cls spent
      go k h ck least = record {
        Z = Z;
        e = e;
        p' = λ v. p v ⊕ (Z v && odd e);
        spent' = spend (cls b) spent;
        state = charge_state e pos room k x y w exact;
        falls = spend_falls t t.crossings within l f cls st.labels spent st.done b hb Z (λ v _. refl) above;
        odd_border = border t T l f b Z e (K b) (stage t T In l f K m b ib Z class e pos room) class.base;
        bears = fits t T In l f K m b ib Z class e pos room;
        covers = enough t T In l f K m b ib Z class e pos room;
      }
        where
          x : ℕ
          x = (cut_side t k Z ck).0

          y : ℕ
          y = (cut_side t k Z ck).1

          w : Leaves k x y
          w = let s = cut_side t k Z ck in record { below = h; own = refl; side = s.2; inside = s.3; outside = s.4 }

          halved : (e : ℕ) × (2 * e ≡ (f y + l k) - f b)
          halved =
              half ((f y + l k) - f b)
              (odd_sub (f y + l k) (f b) (omega (arith, above k x y w)) ∙ ap (λ z. z ⊕ odd (f b)) (even k x y w) ∙ xor_self (odd (f b)))

          e : ℕ
          e = halved.0

          exact : f b + 2 * e ≡ f y + l k
          exact = omega (arith, halved.1, above k x y w)

          pos : 1 ≤ e
          pos = omega (arith, exact, above k x y w)

          room : Room t l f b Z e
          room i x' y' h' s p q =
              let v : Leaves i x' y' = record { below = h'; own = refl; side = s; inside = p; outside = q } in
              omega (arith, least i h' (exit_cut t Z all i x' y' v), ap f (outer_is k x y w), ap f (outer_is i x' y' v), exact)
