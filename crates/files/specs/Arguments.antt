-- Which arguments are options, and which are names. Assumes nothing: these are definitions.
use Rattle.std.specs.Prelude.{ℕ, ◌+◌, Bool, not, ◌&&◌, List, [], ◌∷◌, ◌++◌, take, drop, filter, find, codes, bytes_eq, nat_lt, nat_eq, length, slice_index, Option}
use Rattle.std.specs.List.{position_or_len, list_any}

-- it begins with a dash, and is more than that
abbrev pub is_option : List ℕ → Bool
is_option x = nat_lt 1 (length x) && nat_eq (slice_index x 0) 45

abbrev pub is_end : List ℕ → Bool
is_end x = bytes_eq x (codes "--")

-- the arguments before the first that is --
abbrev pub before_end : List (List ℕ) → List (List ℕ)
before_end xs = take (position_or_len is_end xs) xs

-- and those after it
abbrev pub after_end : List (List ℕ) → List (List ℕ)
after_end xs = drop (position_or_len is_end xs + 1) xs

abbrev pub options_of : List (List ℕ) → List (List ℕ)
options_of xs = filter is_option (before_end xs)

abbrev pub named : List (List ℕ) → List (List ℕ)
named xs = filter (λ x. not (is_option x)) (before_end xs) ++ after_end xs

-- standard input if nothing is named
abbrev pub or_standard_input : List (List ℕ) → List (List ℕ)
or_standard_input [] = codes "-" ∷ []
or_standard_input (x ∷ xs) = x ∷ xs

abbrev pub names_of : List (List ℕ) → List (List ℕ)
names_of xs = or_standard_input (named xs)

-- the first option that is not known
abbrev pub first_unknown : List (List ℕ) → List (List ℕ) → Option (List ℕ)
first_unknown known options = find (λ x. not (list_any (λ k. bytes_eq k x) known)) options
