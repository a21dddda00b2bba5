-- Numbers and legs that are written are read back from their words. Assumes nothing.
use Rattle.std.proofs.Common.{◌≡◌, ℕ, ◌+◌, ◌-◌, ◌*◌, ◌^◌, ◌<◌, ◌≤◌, Bool, true, false, ◌&&◌, cond, eqb, ltb, List, [], ◌∷◌, ◌++◌, map, length, take, get_or, decimal, codes, Option, Some, None, option_and_then, refl, ap, ap₂, ◌∙◌, append-nil, length-append, arith}
use Rattle.std.specs.List.{AllByRecursion, list_all}
use Rattle.std.specs.Str.{all_ascii_digits}
use Rattle.std.specs.Str.Parse.{AllDigits, digits_value}
use Rattle.std.proofs.lemmas.Str.Parse.{digit_from_value, digit_at}
use Rattle.std.proofs.lemmas.Fmt.{decimal_is_IsNumeral, digits_decimal, digits_value-decimal, decimal_nonempty, length-decimal-le}
use Rattle.std.proofs.lemmas.List.{take_at, get_or_at}
use Rattle.std.proofs.lemmas.Bool.{and_from, lt-ltb, ne_eqb, cond-true, cond-false}
use Rattle.std.proofs.lemmas.Bool.Decides.{nat_tests}
use Rattle.std.proofs.lemmas.List.Folds.{list_all-append}
use Rattle.road.specs.declared.leg.Leg.{Leg}
use Rattle.road.specs.Numbers.{leg_number}
use Rattle.text.specs.Words.{number_in, leg_number as leg_below, leg_in, each}
use Rattle.text.proofs.Words.{numerals}
use Rattle.text.proofs.Spelled.{in_word, Word}

digits_in_word : (ds : List ℕ) → AllDigits 10 ds → list_all in_word ds ≡ true
digits_in_word [] h = refl
digits_in_word (d ∷ ds) h = and_from (in_word d) (list_all in_word ds) (digit_in_word d (digit_from_value d h.0)) (digits_in_word ds h.1)
  where
    digit_in_word : (c : ℕ) → (48 ≤ c) × (c ≤ 57) → in_word c ≡ true
    digit_in_word c h = grind (arith, nat_tests)

pub decimal_word : (n : ℕ) → n < 10 ^ 19 → Word (decimal n)
decimal_word n h = let small : n < 2 ^ 64 = omega arith in record {
  full = decimal_nonempty n small;
  in_word_all = digits_in_word (decimal n) (decimal_is_IsNumeral n small).0.1;
}

pub number_back : (n : ℕ) → n < 10 ^ 19 → number_in (decimal n) ≡ Some n
number_back n h =
    let small : n < 2 ^ 64 = omega arith in
    let w = decimal n in
    let full : 0 < length w = decimal_nonempty n small in
    let few : length w ≤ 19 = length-decimal-le 19 n (omega arith) h small in
    let test = and_from (ltb 0 (length w) && ltb (length w) 20) (all_ascii_digits w) (and_from (ltb 0 (length w)) (ltb (length w) 20) (lt-ltb 0 (length w) full) (lt-ltb (length w) 20 (omega arith))) (digits_decimal numerals n small) in
    cond-true ((ltb 0 (length w) && ltb (length w) 20) && all_ascii_digits w) (Some (digits_value 10 w)) None test ∙ ap Some (digits_value-decimal numerals n small)

-- a leg: its street's number, and a 'b' if it is driven back
abbrev pub leg_word : Leg → List ℕ
leg_word l = decimal l.by ++ cond l.back (codes "b") []

leg_fits : (back k : ℕ) → back ≤ 1 → k < 2 ^ 62 → leg_below back k ≡ Some (2 * k + back)
leg_fits back k b h = cond-true (ltb (2 * k + back) (2 ^ 64)) (Some (2 * k + back)) None (lt-ltb (2 * k + back) (2 ^ 64) (omega arith))

leg_forth : (k : ℕ) → k < 2 ^ 62 → leg_in (decimal k) ≡ Some (2 * k + 0)
leg_forth k h =
    let small : k < 10 ^ 19 = omega arith in
    let w = decimal k in
    let full : 0 < length w = decimal_nonempty k (omega arith) in
    let last = digit_at w (length w - 1) (decimal_is_IsNumeral k (omega arith)).0.1 (omega arith) in
    cond-false (eqb (get_or w (length w - 1) 0) 98) (option_and_then (leg_below 1) (number_in (take (length w - 1) w))) (option_and_then (leg_below 0) (number_in w)) (ne_eqb (get_or w (length w - 1) 0) 98 (λ e. absurd (omega arith)))
    ∙ ap (option_and_then (leg_below 0)) (number_back k small) ∙ leg_fits 0 k (omega arith) h

leg_back : (k : ℕ) → k < 2 ^ 62 → leg_in (decimal k ++ 98 ∷ []) ≡ Some (2 * k + 1)
leg_back k h =
    let small : k < 10 ^ 19 = omega arith in
    let d = decimal k in
    let w = d ++ 98 ∷ [] in
    let long : length d ≡ length w - 1 = omega (arith, length-append d (98 ∷ [])) in
    cond-true (eqb (get_or w (length w - 1) 0) 98) (option_and_then (leg_below 1) (number_in (take (length w - 1) w))) (option_and_then (leg_below 0) (number_in w)) (ap (λ c. eqb c 98) (get_or_at d 98 [] 0 (length w - 1) long))
    ∙ ap (λ v. option_and_then (leg_below 1) (number_in v)) (take_at d (98 ∷ []) (length w - 1) long)
    ∙ ap (option_and_then (leg_below 1)) (number_back k small) ∙ leg_fits 1 k (omega arith) h

pub leg_read : (l : Leg) → l.by < 2 ^ 62 → leg_in (leg_word l) ≡ Some (leg_number l)
leg_read l h = at l.back
  where
    at : (b : Bool) → leg_in (decimal l.by ++ cond b (codes "b") []) ≡ Some (leg_number (record { by = l.by; back = b }))
    at true = leg_back l.by h
    at false = ap leg_in (append-nil (decimal l.by)) ∙ leg_forth l.by h

pub leg_is_word : (l : Leg) → l.by < 2 ^ 62 → Word (leg_word l)
leg_is_word l h = at l.back
  where
    ds : Word (decimal l.by)
    ds = decimal_word l.by (omega arith)

    at : (b : Bool) → Word (decimal l.by ++ cond b (codes "b") [])
    at true = record {
      full = omega (arith, length-append (decimal l.by) (98 ∷ []), ds.full);
      in_word_all = list_all-append in_word (decimal l.by) (98 ∷ []) ∙ and_from (list_all in_word (decimal l.by)) true ds.in_word_all refl;
    }
    at false = record {
      full = omega (arith, length-append (decimal l.by) [], ds.full);
      in_word_all = ap (list_all in_word) (append-nil (decimal l.by)) ∙ ds.in_word_all;
    }

-- words that are each read back
pub each_back : {X A : Type 0} (one : List ℕ → Option A) (say : X → List ℕ) (mean : X → A) (xs : List X) → AllByRecursion (λ x. one (say x) ≡ Some (mean x)) xs → each one (map say xs) ≡ Some (map mean xs)
each_back one say mean [] h = refl
each_back {X} {A} one say mean (x ∷ xs) h =
    ap₂ (λ (o : Option A) (os : Option (List A)). option_and_then (λ y. option_and_then (λ ys. Some (y ∷ ys)) os) o) h.0 (each_back one say mean xs h.1)
