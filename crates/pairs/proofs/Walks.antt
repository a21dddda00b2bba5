-- Walks over streets of a set: one leg more, and where a walk is stuck. Assumes nothing.
use Rattle.std.proofs.Common.{◌≡◌, ℕ, ◌+◌, ◌-◌, ◌<◌, Bool, true, false, eqb, List, [], ◌∷◌, ◌++◌, sym, refl, ap, ◌∙◌, subst, ap₂, ⊎_elim, arith}
use mathlib.Core.Path.{fun_ext}
use Rattle.std.proofs.lemmas.Bool.{both_ways, cases_Bool, cases_eq, eq-eqb, ne_eqb, eqb-true}
use Rattle.road.specs.declared.leg.Leg.{Leg}
use Rattle.road.specs.Roads.{Town, into, Drive, stay, times}
use Rattle.road.specs.Counts.{◌⊕◌, bit, odd, sum, size, one, two, Set}
use Rattle.road.proofs.Parity.{xor_false, xor_comm, xor_cancel, xor_same, odd_add, odd_bit}
use Rattle.road.proofs.Sums.{sum_point}
use Rattle.road.proofs.Drives.{drive_push, times_append, times_first, times_other}
use Rattle.join.specs.Joins.{◌⊞◌, single}
use Rattle.join.specs.Odd.{odd_at, streets_of}
use Rattle.join.proofs.Joins.{out_none}
use Rattle.join.proofs.Pairing.{drive_streets, odd_changed}
use Rattle.pairs.specs.Walks.{Walk, Forth, Each, LeadsOn, Clear, Walked, Taken}

-- what holds of each of two lists holds of each of both
pub each_append : {X : Type 0} (P : X → Type 0) (xs ys : List X) → Each P xs → Each P ys → Each P (xs ++ ys)
each_append P [] ys u h = h
each_append P (x ∷ xs) ys (g, gs) h = (g, each_append P xs ys gs h)

-- a walk that is under way: of the counts c it took off one for each leg, and d is left
pub record Going (t : Town) (c d : ℕ → ℕ) (v w : ℕ) (ls : List Leg) : Type 0 where
  pub drive : Drive t v ls w
  pub taken : (k : ℕ) → times k ls + d k ≡ c k
  pub forth : Each (Forth t) ls

pub going_start : (t : Town) (c : ℕ → ℕ) (v : ℕ) (ls : List Leg) → ls ≡ [] → Going t c c v v ls
unfolding times
going_start t c v ls e = rw e (record { drive = stay v; taken = λ k. omega arith; forth = tt })

-- one is taken off at one place
abbrev pub OneLess : (c d : ℕ → ℕ) (j : ℕ) → Type 0
OneLess c d j = (k : ℕ) → d k ≡ c k - bit (eqb j k)

module _ {t : Town} {d : ℕ → ℕ} {w : ℕ} {l : Leg} (d' : ℕ → ℕ) (on : LeadsOn t d w l) (less : OneLess d d' l.by) where
  here : d l.by ≡ d' l.by + 1
  here = omega (arith, less l.by, on.left, ap bit (eq-eqb l.by l.by refl))

  other : (k : ℕ) → (l.by ≡ k → ⊥) → d k ≡ d' k
  other k ne = omega (arith, less k, ap bit (ne_eqb l.by k ne))

  -- one leg more
  pub going_on : {c : ℕ → ℕ} {v w' : ℕ} {ls ls' : List Leg} → Going t c d v w ls → w' ≡ into t l → ls' ≡ ls ++ l ∷ [] → Going t c d' v w' ls'
  unfolding times
  going_on {c = c} {v = v} {ls = ls} g e f = rw (e, f) (record {
    drive = drive_push t l (subst (λ x. Drive t v ls x) (sym on.begins) g.drive) on.below;
    taken = λ k. ⊎_elim (same k) (differ k) (cases_eq l.by k);
    forth = each_append (Forth t) ls (l ∷ []) g.forth (on.forth, tt);
  })
    where
      same : (k : ℕ) → l.by ≡ k → times k (ls ++ l ∷ []) + d' k ≡ c k
      same k e = rw (← e) (omega (arith, g.taken l.by, times_append l.by ls (l ∷ []), times_first l [], here))

      differ : (k : ℕ) → (l.by ≡ k → ⊥) → times k (ls ++ l ∷ []) + d' k ≡ c k
      differ k ne = omega (arith, g.taken k, times_append k ls (l ∷ []), times_other k l [] ne, other k ne)

  -- and less is left
  pub fewer_left : sum (size t) d' < sum (size t) d
  fewer_left = omega (arith, sum_point (size t) l.by 1 d d' on.below here (λ k _. other k))

-- the counts of a set
abbrev pub bits : Set → ℕ → ℕ
bits J k = bit (J k)

-- where no street of a set has an end, it is even
pub stuck_even : (t : Town) (L : Set) (w : ℕ) → Clear t (bits L) w (size t) → odd_at t L w ≡ false
stuck_even t L w h = out_none t L (single w) (λ k i c. ⊎_elim (λ y. absurd (at (eqb (one t k) w) (eqb (two t k) w) (h k i (omega (arith, ap bit y))) c)) (λ n. n) (cases_Bool (L k)))
  where
    at : (a b : Bool) → bit a + bit b ≡ 0 → a ⊕ b ≡ true → ⊥
    at true b e c = omega arith
    at false true e c = omega arith
    at false false e c = both_ways false refl c

-- what is left differs by the streets of the walk
left_streets : (J L : Set) (ls : List Leg) → ((k : ℕ) → times k ls + bit (L k) ≡ bit (J k)) → L ≡ J ⊞ streets_of ls
left_streets J L ls taken = fun_ext (λ k. at (times k ls) (L k) (J k) (taken k))
  where
    at : (n : ℕ) (a b : Bool) → n + bit a ≡ bit b → a ≡ b ⊕ odd n
    at n a b e =
        let q : odd n ⊕ a ≡ b = ap (λ x. odd n ⊕ x) (sym (odd_bit a)) ∙ sym (odd_add n (bit a)) ∙ ap odd e ∙ odd_bit b in
        sym (ap (λ x. x ⊕ odd n) (sym q) ∙ xor_comm (odd n ⊕ a) (odd n) ∙ xor_cancel (odd n) a)

-- a walk from an odd crossing is stuck at another that was odd
module _ (t : Town) (J L : Set) (q : Walk) (g : Walked t (bits J) (bits L) q) (ov : odd_at t J q.one ≡ true) where
  abbrev v : ℕ
  v = q.one

  abbrev w : ℕ
  w = q.two

  changed : (u : ℕ) → odd_at t L u ≡ (odd_at t J u ⊕ eqb v u) ⊕ eqb w u
  changed u = ap (λ (K : Set). odd_at t K u) (left_streets J L q.legs g.taken) ∙ odd_changed t J (streets_of q.legs) v w (drive_streets t v w q.legs g.drive) u

  end_odd : (odd_at t J w ⊕ eqb v w) ≡ true
  end_odd = xor_same (odd_at t J w ⊕ eqb v w) (eqb w w) (sym (changed w) ∙ stuck_even t L w g.clear) ∙ eq-eqb w w refl

  elsewhere : v ≡ w → ⊥
  elsewhere e = both_ways true (sym end_odd ∙ ap₂ (λ a b. a ⊕ b) (ap (odd_at t J) (sym e) ∙ ov) (eq-eqb v w e)) refl

  walk_stuck : Taken t J L q
  walk_stuck = record { drive = g.drive; taken = g.taken; ends = ends }
    where
      at : (o a b : Bool) → (a ≡ true → o ≡ true) → (b ≡ true → o ≡ true) → (a ≡ true → b ≡ true → ⊥) → bit a + bit b + bit ((o ⊕ a) ⊕ b) ≡ bit o
      at true true true p q r = absurd (r refl refl)
      at true true false p q r = refl
      at true false true p q r = refl
      at true false false p q r = refl
      at false true b p q r = absurd (both_ways true (sym (p refl)) refl)
      at false false true p q r = absurd (both_ways true (sym (q refl)) refl)
      at false false false p q r = refl

      w_odd : odd_at t J w ≡ true
      w_odd = sym (ap (λ x. odd_at t J w ⊕ x) (ne_eqb v w elsewhere) ∙ xor_false (odd_at t J w)) ∙ end_odd

      ends : (u : ℕ) → (bit (eqb v u) + bit (eqb w u)) + bit (odd_at t L u) ≡ bit (odd_at t J u)
      ends u =
          ap (λ x. bit (eqb v u) + bit (eqb w u) + bit x) (changed u)
          ∙ at (odd_at t J u) (eqb v u) (eqb w u)
          (λ e. ap (odd_at t J) (sym (eqb-true v u e)) ∙ ov)
          (λ e. ap (odd_at t J) (sym (eqb-true w u e)) ∙ w_odd)
          (λ e f. elsewhere (eqb-true v u e ∙ sym (eqb-true w u f)))

-- so it has taken off what it drives, and made its two ends even
pub trail_taken : (t : Town) (J L : Set) (v : ℕ) (q : Walk) → (q.one ≡ v) × Walked t (bits J) (bits L) q → odd_at t J v ≡ true → Taken t J L q
trail_taken t J L v q (e, g) ov = walk_stuck t J L q g (ap (odd_at t J) e ∙ ov)
