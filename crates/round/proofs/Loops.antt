-- Drives still to come, counted street by street: a drive is made longer over them, at its front, until it begins where it has to. Assumes nothing.
use Rattle.std.proofs.Common.{◌≡◌, ℕ, zero, suc, ◌+◌, ◌-◌, ◌*◌, ◌%◌, ◌<◌, ◌≤◌, Bool, true, false, eqb, ◌⊎◌, List, [], ◌∷◌, sym, refl, ap, ◌∙◌, inl, inr, add-mul, arith}
use Rattle.std.proofs.lemmas.Bool.{eqb-true, eq-eqb, ne_eqb, cases_eq}
use Rattle.road.specs.declared.leg.Leg.{Leg}
use Rattle.road.specs.Roads.{Town, from, into, Drive, stay, go, times}
use Rattle.road.specs.Counts.{bit, sum, size, one, two, ends, degree}
use Rattle.road.proofs.Sums.{sum_point, sum_pos}
use Rattle.road.proofs.Drives.{leg_ends, times_first, times_other}
use Rattle.round.specs.Promise.{EvenBut}

-- counts with one drive of the street j taken off
abbrev pub less : (ℕ → ℕ) → ℕ → ℕ → ℕ
less s j k = s k - bit (eqb j k)

pub less_here : (s : ℕ → ℕ) (j : ℕ) → 0 < s j → s j ≡ less s j j + 1
less_here s j p = rw (eq-eqb j j refl) (omega arith)

pub less_other : (s : ℕ → ℕ) (j k : ℕ) → (j ≡ k → ⊥) → s k ≡ less s j k
less_other s j k ne = rw (ne_eqb j k ne) (omega arith)

pub less_sum : (n : ℕ) (s : ℕ → ℕ) (j : ℕ) → j < n → 0 < s j → sum n s ≡ sum n (less s j) + 1
less_sum n s j h p = sum_point n j 1 s (less s j) h (less_here s j p) (λ k i ne. less_other s j k ne)

-- the same with a number for each street
pub less_weighed : (n : ℕ) (s f : ℕ → ℕ) (j : ℕ) → j < n → 0 < s j → sum n (λ k. s k * f k) ≡ sum n (λ k. less s j k * f k) + f j
less_weighed n s f j h p =
    sum_point n j (f j) (λ k. s k * f k) (λ k. less s j k * f k) h
    (ap (λ x. x * f j) (less_here s j p) ∙ omega (arith, add-mul (less s j j) 1 (f j)))
    (λ k i ne. ap (λ x. x * f k) (less_other s j k ne))

-- one drive more, and one less to come
pub less_times : (k : ℕ) (l : Leg) (ls : List Leg) (s : ℕ → ℕ) → 0 < s l.by → times k (l ∷ ls) + less s l.by k ≡ times k ls + s k
less_times k l ls s p = at (cases_eq l.by k)
  where
    at : (l.by ≡ k) ⊎ (l.by ≡ k → ⊥) → times k (l ∷ ls) + less s l.by k ≡ times k ls + s k
    at (inl e) = rw (← e) (omega (arith, times_first l ls, less_here s l.by p))
    at (inr ne) = omega (arith, times_other k l ls ne, less_other s l.by k ne)

-- a leg that is still to be driven and leads to x
pub record Unused (t : Town) (s : ℕ → ℕ) (x : ℕ) : Type 0 where
  pub leg : Leg
  pub real : leg.by < size t
  pub left : 0 < s leg.by
  pub to : into t leg ≡ x

-- where a degree is odd, some leg leads there
odd_unused : (t : Town) (s : ℕ → ℕ) (x : ℕ) → degree t s x % 2 ≡ 1 → Unused t s x
unfolding into
odd_unused t s x odd = at (sum_pos (size t) (λ k. s k * ends t k x) (omega arith))
  where
    counted : (a : ℕ) (b c : Bool) → 0 < a * (bit b + bit c) → (0 < a) × ((b ≡ true) ⊎ (c ≡ true))
    counted a true c p = (pos a (bit true + bit c) p, inl refl)
      where
        pos : (a n : ℕ) → 0 < a * n → 0 < a
        pos zero n p = absurd (omega arith)
        pos (suc a) n p = omega arith
    counted a false true p = (omega arith, inr refl)
    counted a false false p = absurd (omega arith)

    end : (k : ℕ) → k < size t → 0 < s k → (eqb (one t k) x ≡ true) ⊎ (eqb (two t k) x ≡ true) → Unused t s x
    end k h p (inl e) = record { leg = record { by = k; back = true }; real = h; left = p; to = eqb-true (one t k) x e }
    end k h p (inr e) = record { leg = record { by = k; back = false }; real = h; left = p; to = eqb-true (two t k) x e }

    at : (k : ℕ) × (k < size t) × (0 < s k * ends t k x) → Unused t s x
    at (k, h, p) = let q = counted (s k) (eqb (one t k) x) (eqb (two t k) x) p in end k h q.0 q.1

-- the legs ls made longer to a drive from v to w, and what is still to be driven then
pub record Extended (t : Town) (ls : List Leg) (s : ℕ → ℕ) (v w : ℕ) : Type 0 where
  pub legs : List Leg
  pub left : ℕ → ℕ
  pub drive : Drive t v legs w
  pub same : (k : ℕ) → times k legs + left k ≡ times k ls + s k
  pub fewer : sum (size t) left ≤ sum (size t) s
  pub even : (x : ℕ) → degree t left x % 2 ≡ 0

-- a drive that begins with the leg of m
onward : (t : Town) (s : ℕ → ℕ) (u w : ℕ) (ls : List Leg) (m : Unused t s u) → Drive t u ls w → Drive t (from t m.leg) (m.leg ∷ ls) w
onward t s u w ls m d = go (from t m.leg) w m.leg ls m.real refl (rw m.to d)

onward_even : (t : Town) (s : ℕ → ℕ) (v u : ℕ) (m : Unused t s u) → EvenBut t s v u → EvenBut t (less s m.leg.by) v (from t m.leg)
onward_even t s v u m even x =
    omega (arith, even x, less_weighed (size t) s (λ k. ends t k x) m.leg.by m.real m.left, rw m.to at (leg_ends t m.leg x))

-- a drive that does not begin at v can be made longer
not_there : (t : Town) (s : ℕ → ℕ) (v u : ℕ) → EvenBut t s v u → (u ≡ v → ⊥) → Unused t s u
not_there t s v u even ne = odd_unused t s u (omega (arith, even u, ap bit (eq-eqb u u refl), ap bit (ne_eqb v u (λ q. ne (sym q)))))

-- so it comes to begin there, by induction on the number of drives to come
pub extends : (t : Town) (v w n u : ℕ) (ls : List Leg) (s : ℕ → ℕ) → sum (size t) s < n → Drive t u ls w → EvenBut t s v u → Extended t ls s v w
extends t v w zero u ls s h d even = absurd (omega arith)
extends t v w (suc n) u ls s h d even = at (cases_eq u v) (extends t v w n)
  where
    at : (u ≡ v) ⊎ (u ≡ v → ⊥) →
        ((u : ℕ) (ls : List Leg) (s : ℕ → ℕ) → sum (size t) s < n → Drive t u ls w → EvenBut t s v u → Extended t ls s v w) → Extended t ls s v w
    at (inl e) more =
        record { legs = ls; left = s; drive = rw e at d; same = λ k. refl; fewer = omega arith; even = λ x. omega (arith, rw e at (even x)) }
    at (inr ne) more =
        let m = not_there t s v u even ne in
        let j = m.leg.by in
        let fall = less_sum (size t) s j m.real m.left in
        let c = more (from t m.leg) (m.leg ∷ ls) (less s j) (omega arith) (onward t s u w ls m d) (onward_even t s v u m even) in
        record {
          legs = c.legs;
          left = c.left;
          drive = c.drive;
          same = λ k. omega (arith, c.same k, less_times k m.leg ls s m.left);
          fewer = omega (arith, c.fewer);
          even = c.even;
        }

-- where all degrees are even, a leg to a crossing is the end of a closed walk
pub closed : (t : Town) (s : ℕ → ℕ) (x : ℕ) (m : Unused t s x) → ((y : ℕ) → degree t s y % 2 ≡ 0) → Extended t (m.leg ∷ []) (less s m.leg.by) x x
closed t s x m even =
    let rest = less s m.leg.by in
    extends t x x (suc (sum (size t) rest)) (from t m.leg) (m.leg ∷ []) rest (omega arith)
    (onward t s x x [] m (stay x)) (onward_even t s x x m (λ y. omega (arith, even y)))
