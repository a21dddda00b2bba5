-- The words of a line, and the numbers that they write. Assumes nothing: these are definitions.
use Rattle.std.specs.Prelude.{ℕ, ◌+◌, ◌-◌, ◌*◌, ◌^◌, ◌&&◌, ◌||◌, ◌==◌, Bool, List, [], ◌∷◌, length, take, filter, map, nat_lt, Some, None, Option, if◌then◌else◌, slice_index}
use Rattle.std.specs.Option.{option_and_then}
use Rattle.std.specs.List.{slice_split, before_first}
use Rattle.std.specs.Char.{is_newline, is_ascii_whitespace}
use Rattle.std.specs.Str.{all_ascii_digits}
use Rattle.std.specs.Str.Parse.{digits_value}

-- what stands between white space
abbrev pub words : List ℕ → List (List ℕ)
words bytes = filter (λ w. nat_lt 0 (length w)) (slice_split is_ascii_whitespace bytes)

-- '#'
abbrev pub is_hash : ℕ → Bool
is_hash c = c == 35

-- what no word goes on over: white space and '#'
abbrev pub ends_word : ℕ → Bool
ends_word c = is_ascii_whitespace c || is_hash c

-- the lines of a text in words, each up to its '#' if it has one
abbrev pub lines_of : List ℕ → List (List (List ℕ))
lines_of text = map (λ line. words (before_first is_hash line)) (slice_split is_newline text)

-- one to nineteen digits, and so a number below 2^64
abbrev pub number_in : List ℕ → Option ℕ
number_in w = if (nat_lt 0 (length w) && nat_lt (length w) 20) && all_ascii_digits w then Some (digits_value 10 w) else None

-- a street's number twice, and one more for a way back, if that is below 2^64
abbrev pub leg_number : ℕ → ℕ → Option ℕ
leg_number back k = if nat_lt (2 * k + back) (2 ^ 64) then Some (2 * k + back) else None

-- a leg: its street's number, and a 'b' if it is driven back
abbrev pub leg_in : List ℕ → Option ℕ
leg_in w =
    if slice_index w (length w - 1) == 98
    then option_and_then (leg_number 1) (number_in (take (length w - 1) w))
    else option_and_then (leg_number 0) (number_in w)

-- what each of the words writes, if each writes something
abbrev pub each : {A : Type 0} → (List ℕ → Option A) → List (List ℕ) → Option (List A)
each one [] = Some []
each one (w ∷ ws) = option_and_then (λ x. option_and_then (λ xs. Some (x ∷ xs)) (each one ws)) (one w)
