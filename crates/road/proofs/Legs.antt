-- Legs one by one: where they begin and end, and how far a list of them is a drive. Assumes nothing.
use Rattle.std.proofs.Common.{◌≡◌, ℕ, suc, ◌+◌, ◌<◌, ◌≤◌, Bool, true, false, eqb, ltb, List, [], ◌∷◌, ◌++◌, length, get_or, take, drop, set, replicate, Some, None, sym, refl, ap, ◌∙◌, subst, ap₂, ⊎_elim, arith}
use Rattle.std.proofs.lemmas.List.{length-set, length-replicate, length-map, get_or-replicate, get_or_past, get_or-set_same, get_or-set_other, drop_more, drop_all, take_all, take-append-drop, append-nil, length-take-le, map_more}
use Rattle.std.proofs.lemmas.Bool.{cases_eq, cases_lt, lt-ltb, ltb-true, eqb-true, eq-eqb, le-leb, lt-leb, and_parts}
use Rattle.road.specs.Roads.{pick, Street, Town, street, Leg, from, into, times, Drive, stay, go}
use Rattle.road.specs.Counts.{size}
use Rattle.road.specs.Numbers.{leg_in, legs_in}
use Rattle.road.specs.declared.fault.Fault.TheVariants.{Leg as AtLeg}
use Rattle.road.specs.First.{unless}
use Rattle.road.specs.Faults.{begins, driven, end, leg_fault, Driven}
use Rattle.road.specs.Model.{marked}
use Rattle.road.specs.Laws.{Begins, no_leg}
use Rattle.road.proofs.First.{Tests, tests_and}
use Rattle.road.proofs.Drives.{times_first, times_other, times_append}

pub from_is : (t : Town) (l : Leg) (b : Bool) (s : Street) → l.back ≡ b → s ≡ street t l.by → pick b s.two s.one ≡ from t l
unfolding from
from_is t l b s e f = ap₂ (λ (b : Bool) (s : Street). pick b s.two s.one) (sym e) f

pub into_is : (t : Town) (l : Leg) (b : Bool) (s : Street) → l.back ≡ b → s ≡ street t l.by → pick b s.one s.two ≡ into t l
unfolding into
into_is t l b s e f = ap₂ (λ (b : Bool) (s : Street). pick b s.one s.two) (sym e) f

-- the first i legs are a drive from v to w, and the streets that it drives are marked
pub record Along (t : Town) (v : ℕ) (xs : List ℕ) (i w : ℕ) (ms : List Bool) : Type 0 where
  pub goes : driven t v (legs_in xs) ≡ i + driven t w (legs_in (drop i xs))
  pub ends : end t v (legs_in xs) ≡ end t w (legs_in (drop i xs))
  pub places : length ms ≡ 300
  pub marks : (k : ℕ) → marked ms k ≡ ltb 0 (times k (legs_in (take i xs)))

pub along_start : (t : Town) (v : ℕ) (xs : List ℕ) → Along t v xs 0 v (replicate 300 false)
unfolding times
along_start t v xs = record { goes = omega arith; ends = refl; places = length-replicate 300 false; marks = none }
  where
    none : (k : ℕ) → get_or (replicate 300 false) k false ≡ false
    none k = ⊎_elim (get_or-replicate 300 k false false) (λ ge. get_or_past (replicate 300 false) k false (omega (arith, length-replicate 300 false))) (cases_lt k 300)

module _ (t : Town) (v : ℕ) (xs : List ℕ) (i w : ℕ) (ms : List Bool) (a : Along t v xs i w ms) where
  -- at the end of the list
  pub along_whole : length xs ≤ i → i ≤ length xs → leg_fault t v (legs_in xs) ≡ None
  unfolding driven
  along_whole h l =
      let none = ap (driven t w) (ap legs_in (drop_all i xs h)) in
      let whole = length-map xs leg_in in
      ap (λ b. unless b (AtLeg (driven t v (legs_in xs)))) (le-leb (length (legs_in xs)) (driven t v (legs_in xs)) (omega (arith, a.goes)))

  pub along_end : length xs ≤ i → Driven t v (legs_in xs) w ms
  unfolding end
  along_end h =
      let none = ap legs_in (drop_all i xs h) in record {
        there = a.ends ∙ ap (end t w) none;
        marks = λ k _. a.marks k ∙ ap (λ z. ltb 0 (times k (legs_in z))) (take_all i xs h);
      }

  module _ (l : Leg) (h : i < length xs) (is : l ≡ leg_in (get_or xs i 0)) where
    next : legs_in (drop i xs) ≡ l ∷ legs_in (drop (i + 1) xs)
    next = ap legs_in (drop_more xs i 0 h) ∙ ap (λ m. m ∷ legs_in (drop (i + 1) xs)) (sym is)

    -- at a leg that does not begin there
    pub along_stuck : begins t w l ≡ false → leg_fault t v (legs_in xs) ≡ Some (AtLeg i)
    unfolding driven
    along_stuck b =
        let stuck = ap (driven t w) next ∙ ap (λ z. pick z (suc (driven t (into t l) (legs_in (drop (i + 1) xs)))) 0) b in
        let all = driven t v (legs_in xs) in
        let here : all ≡ i = omega (arith, a.goes) in
        ap₂ (λ b k. unless b (AtLeg k)) (lt-leb (length (legs_in xs)) all (omega (arith, length-map xs leg_in))) here

    taken : (k : ℕ) → times k (legs_in (take (i + 1) xs)) ≡ times k (legs_in (take i xs)) + times k (l ∷ [])
    taken k = ap (times k) (map_more leg_in xs i 0 h ∙ ap (λ m. legs_in (take i xs) ++ m ∷ []) (sym is)) ∙ times_append k (legs_in (take i xs)) (l ∷ [])

    -- over a leg that does
    pub along_more : begins t w l ≡ true → l.by < 300 → Along t v xs (i + 1) (into t l) (set ms l.by true)
    unfolding driven end times
    along_more b low = record {
      goes = let on = ap (driven t w) next ∙ ap (λ z. pick z (suc (driven t (into t l) (legs_in (drop (i + 1) xs)))) 0) b in omega (arith, a.goes);
      ends = a.ends ∙ ap (end t w) next;
      places = length-set ms l.by true ∙ a.places;
      marks = λ k. ⊎_elim (here k) (other k) (cases_eq k l.by);
    }
      where
        here : (k : ℕ) → k ≡ l.by → marked (set ms l.by true) k ≡ ltb 0 (times k (legs_in (take (i + 1) xs)))
        here k e =
            let some = times_first l [] in
            rw e (get_or-set_same ms l.by true false (omega (arith, a.places)) ∙ sym (lt-ltb 0 (times l.by (legs_in (take (i + 1) xs))) (omega (arith, taken l.by))))

        other : (k : ℕ) → (k ≡ l.by → ⊥) → marked (set ms l.by true) k ≡ ltb 0 (times k (legs_in (take (i + 1) xs)))
        other k ne =
            let none = times_other k l [] (λ e. ne (sym e)) in
            get_or-set_other ms l.by k true false ne ∙ a.marks k ∙ ap (ltb 0) (omega (arith, taken k))

-- a leg that begins somewhere is of a street
pub begins_low : (t : Town) (v : ℕ) (l : Leg) → begins t v l ≡ true → l.by < size t
begins_low t v l b = ltb-true l.by (size t) (and_parts (ltb l.by (size t)) (eqb (from t l) v) b).0

pub tests_begins : (t : Town) (v : ℕ) (l : Leg) → Tests (begins t v l) (Begins t v l)
tests_begins t v l =
    tests_and (ltb l.by (size t)) (eqb (from t l) v) (l.by < size t) (from t l ≡ v) (ltb-true l.by (size t), lt-ltb l.by (size t))
    (eqb-true (from t l) v, eq-eqb (from t l) v)

-- the legs up to the first fault are a drive
pub driven_drive : (t : Town) (v : ℕ) (ls : List Leg) → Drive t v (take (driven t v ls) ls) (end t v (take (driven t v ls) ls))
unfolding driven end
driven_drive t v [] = stay v
driven_drive t v (l ∷ ls) = at (begins t v l) refl (driven_drive t (into t l) ls)
  where
    at : (b : Bool) → begins t v l ≡ b → Drive t (into t l) (take (driven t (into t l) ls) ls) (end t (into t l) (take (driven t (into t l) ls) ls)) →
        Drive t v (take (pick b (suc (driven t (into t l) ls)) 0) (l ∷ ls)) (end t v (take (pick b (suc (driven t (into t l) ls)) 0) (l ∷ ls)))
    at true e d = let b = (tests_begins t v l).0 e in go v _ l _ b.0 b.1 d
    at false e d = stay v

-- and the next does not begin where they end
pub driven_stuck : (t : Town) (v : ℕ) (ls : List Leg) → driven t v ls < length ls →
    begins t (end t v (take (driven t v ls) ls)) (get_or ls (driven t v ls) no_leg) ≡ false
unfolding driven end
driven_stuck t v [] h = absurd (omega arith)
driven_stuck t v (l ∷ ls) h = at (begins t v l) refl h (driven_stuck t (into t l) ls)
  where
    at : (b : Bool) → begins t v l ≡ b → pick b (suc (driven t (into t l) ls)) 0 < suc (length ls)
        → (driven t (into t l) ls < length ls → begins t (end t (into t l) (take (driven t (into t l) ls) ls)) (get_or ls (driven t (into t l) ls) no_leg) ≡ false)
        → begins t (end t v (take (pick b (suc (driven t (into t l) ls)) 0) (l ∷ ls))) (get_or (l ∷ ls) (pick b (suc (driven t (into t l) ls)) 0) no_leg) ≡ false
    at true e h later = later (omega arith)
    at false e h later = e

-- after a drive it goes on with the rest
pub driven_append : (t : Town) {v u : ℕ} {xs : List Leg} (ys : List Leg) → Drive t v xs u → driven t v (xs ++ ys) ≡ length xs + driven t u ys
unfolding driven
driven_append t ys (stay v) = omega arith
driven_append t ys (go v u l xs h e d) =
    let b = (tests_begins t v l).1 (h, e) in
    let on = ap (λ z. pick z (suc (driven t (into t l) (xs ++ ys))) 0) b in
    omega (arith, driven_append t ys d)

pub drive_end : (t : Town) {v u : ℕ} {xs : List Leg} → Drive t v xs u → end t v xs ≡ u
unfolding end
drive_end t (stay v) = refl
drive_end t (go v u l xs h e d) = drive_end t d

-- the legs are a drive if all of them are driven, and only then
pub whole_drive : (t : Town) (v : ℕ) (ls : List Leg) → length ls ≤ driven t v ls → Drive t v ls (end t v ls)
whole_drive t v ls h = subst (λ (xs : List Leg). Drive t v xs (end t v xs)) (take_all (driven t v ls) ls h) (driven_drive t v ls)

pub drive_whole : (t : Town) (v u : ℕ) (ls : List Leg) → Drive t v ls u → driven t v ls ≡ length ls
unfolding driven
drive_whole t v u ls d = ap (driven t v) (sym (append-nil ls)) ∙ omega (arith, driven_append t [] d)

-- a leg that does not begin where a drive ends is the first fault
pub drive_stuck : (t : Town) (v u : ℕ) (ls : List Leg) (i : ℕ) → i < length ls → Drive t v (take i ls) u → begins t u (get_or ls i no_leg) ≡ false → driven t v ls ≡ i
unfolding driven
drive_stuck t v u ls i h d b =
    let l = get_or ls i no_leg in
    let rest = drop (i + 1) ls in
    let split = sym (take-append-drop i ls) ∙ ap (λ (xs : List Leg). take i ls ++ xs) (drop_more ls i no_leg h) in
    let stuck = ap (λ z. pick z (suc (driven t (into t l) rest)) 0) b in
    ap (driven t v) split ∙ omega (arith, driven_append t (l ∷ rest) d, length-take-le i ls (omega arith))
