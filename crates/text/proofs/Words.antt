-- Words that are numbers, and text that is cut into words. Assumes nothing.
use Rattle.std.proofs.Common.{◌≡◌, ◌≢◌, Bool, ◌⊎◌, inl, inr, refl, ℕ, get_or, take, ◌+◌, ◌-◌, ◌^◌, ◌<◌, ◌≤◌, true, false, List, [], ◌∷◌, ◌++◌, length, Some, None, Result, Ok, Err, OkIff, sym, ap, ◌∙◌, arith}
use Rattle.std.specs.Result.{result_ok}
use Rattle.std.specs.Str.{all_ascii_digits}
use Rattle.std.specs.Str.Parse.{digits_value, ParsesUnsigned}
use Rattle.std.proofs.lemmas.Bool.{cond-true, cond-false, and_from, and_left, and_right, lt-ltb, le-ltb, ne_eqb, cases_lt}
use Rattle.std.proofs.lemmas.Str.Parse.{IsNumeralModel, numerals_by_value, tells_all_ascii_digits, digits_value_short, parse_plain}
use Rattle.std.proofs.lemmas.List.{take_all, take_more}
use Rattle.std.specs.Option.{option_and_then}
use Rattle.text.specs.Words.{number_in, leg_in, leg_number}

-- digits and their value, as the library's lemmas on numerals want them
pub numerals : IsNumeralModel (λ ds. all_ascii_digits ds ≡ true) (digits_value 10)
numerals = numerals_by_value _ tells_all_ascii_digits

-- a short word of digits is a number
short_number : (w : List ℕ) → length w < 20 → all_ascii_digits w ≡ true → 0 < length w → number_in w ≡ Some (digits_value 10 w)
short_number w few digits some = cond-true _ _ _ (and_from _ _ (and_from _ _ (lt-ltb _ _ some) (lt-ltb _ _ few)) digits)

-- a short word without a plus is parsed just if it is a number
pub parsed : {E : Type 0} (w : List ℕ) (r : Result ℕ E) → ParsesUnsigned 64 10 w r → get_or w 0 0 ≢ 43 → length w < 20 → result_ok r ≡ number_in w
parsed {E} w r h plain few = at r (parse_plain numerals 64 w r h plain)
  where
    no_number : ((all_ascii_digits w ≡ true) × (0 < length w) × (digits_value 10 w < 2 ^ 64) → ⊥) → None ≡ number_in w
    no_number h = by (all_ascii_digits w) refl (cases_lt 0 (length w))
      where
        by : (b : Bool) → all_ascii_digits w ≡ b → (0 < length w) ⊎ (length w ≤ 0) → None ≡ number_in w
        by false other some = sym (cond-false _ _ _ (and_right _ _ other))
        by true digits (inl some) = absurd (h (digits, some, omega (arith, digits_value_short numerals w 19 digits (omega arith))))
        by true digits (inr none) = sym (cond-false _ _ _ (and_left _ _ (and_left _ _ (le-ltb 0 (length w) none))))

    at : (r : Result ℕ E) → OkIff r ((all_ascii_digits w ≡ true) × (0 < length w) × (digits_value 10 w < 2 ^ 64)) (digits_value 10 w) → result_ok r ≡ number_in w
    at (Ok x) h = ap Some h.1 ∙ sym (short_number w few h.0.0 h.0.1)
    at (Err e) h = no_number h

-- a word that does not end in 'b' is a leg that is driven forth
last_of : (w : List ℕ) → 0 < length w → w ≡ take (length w - 1) w ++ get_or w (length w - 1) 0 ∷ []
last_of w some = sym (take_all (length w - 1 + 1) w (omega arith)) ∙ take_more w (length w - 1) 0 (omega arith)

pub forth : (w : List ℕ) → ((front : List ℕ) → w ≢ front ++ 98 ∷ []) → leg_in w ≡ option_and_then (leg_number 0) (number_in w)
forth [] none = refl
forth (x ∷ xs) none = cond-false _ _ _ (ne_eqb (get_or (x ∷ xs) (length (x ∷ xs) - 1) 0) 98 (λ e. none _ (last_of (x ∷ xs) (omega arith) ∙ ap (λ c. take (length (x ∷ xs) - 1) (x ∷ xs) ++ c ∷ []) e)))
