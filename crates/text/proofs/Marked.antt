-- The marks of a part, written as crossings, are read back. Assumes nothing.
use Rattle.std.proofs.Common.{◌≡◌, ℕ, zero, suc, ◌+◌, ◌<◌, ◌≤◌, Bool, true, false, ◌||◌, cond, eqb, ltb, List, [], ◌∷◌, ◌++◌, map, length, get_or, decimal, sym, refl, ap, ap₂, ◌∙◌, arith}
use Rattle.std.specs.List.{AllByRecursion, list_any, list_all, range_with_len}
use Rattle.std.proofs.lemmas.Bool.{eq-eqb, ne_eqb, lt-ltb}
use Rattle.std.proofs.lemmas.List.Elements.{All-from_recursion, All-weaker}
use Rattle.std.proofs.lemmas.List.Sums.{list_all-from_AllPass}
use Rattle.road.specs.Counts.{bit}
use Rattle.text.specs.Plans.{mark_text, marks_text}
use Rattle.text.specs.Format.{marks_of}
use Rattle.text.proofs.Spelled.{spaced}

-- the crossings that are marked, counted from v
abbrev pub marked : ℕ → List Bool → List ℕ
marked v [] = []
marked v (m ∷ ms) = cond m (v ∷ marked (suc v) ms) (marked (suc v) ms)

pub marks_spelled : (v : ℕ) (ms : List Bool) → marks_text v ms ≡ spaced (map decimal (marked v ms))
marks_spelled v [] = refl
marks_spelled v (m ∷ ms) = at m (marks_spelled (suc v) ms)
  where
    at : (b : Bool) → marks_text (suc v) ms ≡ spaced (map decimal (marked (suc v) ms)) → mark_text v b ++ marks_text (suc v) ms ≡ spaced (map decimal (cond b (v ∷ marked (suc v) ms) (marked (suc v) ms)))
    at true e = ap (λ xs. 32 ∷ (decimal v ++ xs)) e
    at false e = e

-- they are as many as the marks at most
pub marked_below : (n v : ℕ) (ms : List Bool) → v + length ms ≤ n → AllByRecursion (λ w. w < n) (marked v ms)
marked_below n v [] h = tt
marked_below n v (m ∷ ms) h = at m (marked_below n (suc v) ms (omega arith))
  where
    at : (b : Bool) → AllByRecursion (λ w. w < n) (marked (suc v) ms) → AllByRecursion (λ w. w < n) (cond b (v ∷ marked (suc v) ms) (marked (suc v) ms))
    at true r = (omega arith, r)
    at false r = r

pub marked_in : (n : ℕ) (ms : List Bool) → length ms ≤ n → list_all (λ w. ltb w n) (marked 0 ms) ≡ true
marked_in n ms h =
    let below = All-from_recursion (λ w. w < n) (marked 0 ms) (marked_below n 0 ms (omega arith)) in
    list_all-from_AllPass (λ w. ltb w n) (marked 0 ms) (All-weaker (λ w. w < n) (λ w. ltb w n ≡ true) (λ w i. lt-ltb w n i) (marked 0 ms) below)

-- a crossing is among them just if it is marked
none_before : (u v : ℕ) (ms : List Bool) → u < v → list_any (λ w. eqb w u) (marked v ms) ≡ false
none_before u v [] h = refl
none_before u v (m ∷ ms) h = at m (none_before u (suc v) ms (omega arith))
  where
    at : (b : Bool) → list_any (λ w. eqb w u) (marked (suc v) ms) ≡ false → list_any (λ w. eqb w u) (cond b (v ∷ marked (suc v) ms) (marked (suc v) ms)) ≡ false
    at true e = ap₂ (λ a b. a || b) (ne_eqb v u (λ z. absurd (omega arith))) e
    at false e = e

named : (v k : ℕ) (ms : List Bool) → list_any (λ w. eqb w (v + k)) (marked v ms) ≡ get_or ms k false
named v k [] = refl
named v zero (m ∷ ms) = at m
  where
    at : (b : Bool) → list_any (λ w. eqb w (v + 0)) (cond b (v ∷ marked (suc v) ms) (marked (suc v) ms)) ≡ b
    at true = ap (λ a. a || list_any (λ w. eqb w (v + 0)) (marked (suc v) ms)) (eq-eqb v (v + 0) (omega arith))
    at false = none_before (v + 0) (suc v) ms (omega arith)
named v (suc k) (m ∷ ms) = at m (named (suc v) k ms)
  where
    same : suc v + k ≡ v + suc k
    same = omega arith

    at : (b : Bool) → list_any (λ w. eqb w (suc v + k)) (marked (suc v) ms) ≡ get_or ms k false → list_any (λ w. eqb w (v + suc k)) (cond b (v ∷ marked (suc v) ms) (marked (suc v) ms)) ≡ get_or ms k false
    at true e = ap₂ (λ a b. a || b) (ne_eqb v (v + suc k) (λ z. absurd (omega arith))) (ap (λ j. list_any (λ w. eqb w j) (marked (suc v) ms)) (sym same) ∙ e)
    at false e = ap (λ j. list_any (λ w. eqb w j) (marked (suc v) ms)) (sym same) ∙ e

ranged : (f : ℕ → Bool) (v : ℕ) (ms : List Bool) → ((k : ℕ) → f (v + k) ≡ get_or ms k false) → map (λ w. bit (f w)) (range_with_len v (length ms)) ≡ map bit ms
ranged f v [] h = refl
ranged f v (m ∷ ms) h =
    let here : v ≡ v + 0 = omega arith in
    ap₂ (λ b xs. bit b ∷ xs) (ap f here ∙ h 0)
    (ranged f (v + 1) ms (λ k. let there : v + 1 + k ≡ v + suc k = omega arith in ap f there ∙ h (suc k)))

pub marks_read : (n : ℕ) (ms : List Bool) → length ms ≡ n → marks_of n (marked 0 ms) ≡ map bit ms
marks_read n ms e =
    ap (λ m. marks_of m (marked 0 ms)) (sym e)
    ∙ ranged (λ v. list_any (λ w. eqb w v) (marked 0 ms)) 0 ms (λ k. let here : 0 + k ≡ k = omega arith in ap (λ j. list_any (λ w. eqb w j) (marked 0 ms)) refl ∙ named 0 k ms)
