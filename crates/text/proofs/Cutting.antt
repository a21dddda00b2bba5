-- Text that is cut into words. Assumes nothing.
use Rattle.std.proofs.Common.{◌≡◌, suc, Option, Some, None, ℕ, ◌+◌, ◌<◌, ◌≤◌, Bool, true, false, not, cond, List, [], ◌∷◌, ◌++◌, length, take, drop, filter, get_or, nat_lt, sym, ap, ◌∙◌, refl, arith}
use Rattle.std.specs.List.{All, AllPass, before_first, position_or_len, position}
use Rattle.std.specs.Char.{is_ascii_whitespace}
use Rattle.std.specs.Str.{IsCharBoundary, IsTrimAsciiStart}
use Rattle.std.specs.Option.{unwrap_or}
use Rattle.std.proofs.lemmas.Bool.{cond-true, lt-ltb, or_parts}
use Rattle.std.proofs.lemmas.Bool.Decides.{nat_tests}
use Rattle.std.proofs.lemmas.List.{append-nil, take-append-drop, get_or-take, get_or-drop, get_or_default, length-take, length-take-le, length-drop}
use Rattle.std.proofs.lemmas.List.Sums.{prefix_len-le-length, fails_before_first, passes_at_first}
use Rattle.std.proofs.lemmas.List.Splits.{slice_split-cons_yes, slice_split_none, slice_split_at}
use Rattle.text.specs.Words.{words, is_hash, ends_word}

-- the words of a line up to its '#'
abbrev pub before_hash : List ℕ → List (List ℕ)
before_hash bs = words (before_first is_hash bs)

abbrev some_bytes : List ℕ → Bool
some_bytes w = nat_lt 0 (length w)

white_no_hash : (c : ℕ) → is_ascii_whitespace c ≡ true → is_hash c ≡ false
white_no_hash c white = grind (arith, nat_tests)

-- a line that begins with another byte, and one that begins with '#'
other_first : (c : ℕ) (cs : List ℕ) → is_hash c ≡ false → before_first is_hash (c ∷ cs) ≡ c ∷ before_first is_hash cs
other_first c cs e =
    let one_more : 1 + position_or_len is_hash cs ≡ suc (position_or_len is_hash cs) = omega arith in
    ap (λ b. take (cond (not b) (1 + position_or_len is_hash cs) 0) (c ∷ cs)) e ∙ ap (λ n. take n (c ∷ cs)) one_more

hash_first : (c : ℕ) (cs : List ℕ) → is_hash c ≡ true → before_first is_hash (c ∷ cs) ≡ []
hash_first c cs e = ap (λ b. take (cond (not b) (1 + position_or_len is_hash cs) 0) (c ∷ cs)) e

white_first : (c : ℕ) (cs : List ℕ) → is_ascii_whitespace c ≡ true → before_hash (c ∷ cs) ≡ before_hash cs
white_first c cs white =
    ap words (other_first c cs (white_no_hash c white)) ∙ ap (filter some_bytes) (slice_split-cons_yes is_ascii_whitespace c (before_first is_hash cs) white)

-- white space before words is no word
words_gap : (gap bs : List ℕ) → AllPass is_ascii_whitespace gap → before_hash (gap ++ bs) ≡ before_hash bs
words_gap [] bs white = refl
words_gap (c ∷ cs) bs white = white_first c (cs ++ bs) (white 0 c (omega arith)) ∙ words_gap cs bs (λ k d below. white (suc k) d (omega arith))

at_end : (n m : ℕ) → n ≤ m → nat_lt n m ≡ false → m ≡ n
at_end n m le h = grind (arith, nat_tests)

-- what `position` answers, with the length where nothing is found
pub position_else : (p : ℕ → Bool) (bs : List ℕ) (r : Option ℕ) → r ≡ position p bs → unwrap_or r (length bs) ≡ position_or_len p bs
position_else p bs r e = ap (λ o. unwrap_or o (length bs)) e ∙ at (nat_lt (position_or_len p bs) (length bs)) refl
  where
    at : (b : Bool) → nat_lt (position_or_len p bs) (length bs) ≡ b → unwrap_or (cond b (Some (position_or_len p bs)) None) (length bs) ≡ position_or_len p bs
    at true h = refl
    at false h = at_end (position_or_len p bs) (length bs) (prefix_len-le-length (λ x. not (p x)) bs) h

-- a byte of a word is no '#' and no white space
hash_in_word : (c : ℕ) → ends_word c ≡ false → is_hash c ≡ false
hash_in_word c e = (or_parts (is_ascii_whitespace c) (is_hash c) e).1

white_in_word : (c : ℕ) → ends_word c ≡ false → is_ascii_whitespace c ≡ false
white_in_word c e = (or_parts (is_ascii_whitespace c) (is_hash c) e).0

white_end : (c : ℕ) → ends_word c ≡ true → is_hash c ≡ false → is_ascii_whitespace c ≡ true
white_end c ends e = grind (arith, nat_tests)

hash_behind : (x bs : List ℕ) → All (λ c. ends_word c ≡ false) x → before_first is_hash (x ++ bs) ≡ x ++ before_first is_hash bs
hash_behind [] bs in_word = refl
hash_behind (c ∷ cs) bs in_word =
    other_first c (cs ++ bs) (hash_in_word c (in_word 0 c (omega arith))) ∙ ap (λ z. c ∷ z) (hash_behind cs bs (λ k d below. in_word (suc k) d (omega arith)))

-- a word alone, and a word before white space
no_white : (x : List ℕ) → All (λ c. ends_word c ≡ false) x → All (λ c. is_ascii_whitespace c ≡ false) x
no_white x in_word k d below = white_in_word (get_or x k d) (in_word k d below)

pub word_alone : (x : List ℕ) → 0 < length x → All (λ c. ends_word c ≡ false) x → words x ≡ x ∷ []
word_alone x some in_word = ap (filter some_bytes) (slice_split_none is_ascii_whitespace x (no_white x in_word)) ∙ cond-true (some_bytes x) _ _ (lt-ltb _ _ some)

pub word_more : (x : List ℕ) (c : ℕ) (bs : List ℕ) → 0 < length x → All (λ c. ends_word c ≡ false) x → is_ascii_whitespace c ≡ true → words (x ++ c ∷ bs) ≡ x ∷ words bs
word_more x c bs some in_word white = ap (filter some_bytes) (slice_split_at is_ascii_whitespace x c bs (no_white x in_word) white) ∙ cond-true (some_bytes x) _ _ (lt-ltb _ _ some)

-- a word of a line: what follows it is the end, '#' or white space
words_word : (x bs : List ℕ) → 0 < length x → All (λ c. ends_word c ≡ false) x → (0 < length bs → ends_word (get_or bs 0 0) ≡ true) → before_hash (x ++ bs) ≡ x ∷ before_hash bs
words_word x [] some in_word ends = ap words (hash_behind x [] in_word ∙ append-nil x) ∙ word_alone x some in_word
words_word x (c ∷ cs) some in_word ends = at (is_hash c) refl
  where
    at : (b : Bool) → is_hash c ≡ b → before_hash (x ++ c ∷ cs) ≡ x ∷ before_hash (c ∷ cs)
    at true e =
        let front : before_first is_hash (c ∷ cs) ≡ [] = hash_first c cs e in
        ap words (hash_behind x (c ∷ cs) in_word ∙ ap (λ z. x ++ z) front ∙ append-nil x) ∙ word_alone x some in_word ∙ ap (λ z. x ∷ words z) (sym front)
    at false e =
        let white : is_ascii_whitespace c ≡ true = white_end c (ends (omega arith)) e in
        ap words (hash_behind x (c ∷ cs) in_word ∙ ap (λ z. x ++ z) (other_first c cs e)) ∙ word_more x c (before_first is_hash cs) some in_word white ∙ ap (λ z. x ∷ z) (sym (white_first c cs white))

-- a line that has no white space at its start any more
pub trimmed : (bs rest : List ℕ) → IsTrimAsciiStart bs rest → before_hash rest ≡ before_hash bs
trimmed bs rest h =
    let n = h.0 in
    let gap : AllPass is_ascii_whitespace (take n bs) = λ k d below. ap is_ascii_whitespace (get_or-take n bs k d (omega (arith, below, length-take n bs)) ∙ get_or_default bs k d 0 (omega (arith, below, length-take n bs))) ∙ h.3 k (omega (arith, below, length-take n bs)) in
    ap before_hash h.1 ∙ sym (words_gap (take n bs) (drop n bs) gap) ∙ ap before_hash (take-append-drop n bs)

pub no_white_first : (bs rest : List ℕ) → IsTrimAsciiStart bs rest → 0 < length rest → is_ascii_whitespace (get_or rest 0 0) ≡ false
no_white_first bs rest h some =
    let n = h.0 in
    ap (λ z. is_ascii_whitespace (get_or z 0 0)) h.1 ∙ ap is_ascii_whitespace (get_or-drop n bs 0 0 ∙ ap (λ i. get_or bs i 0) (omega arith)) ∙ h.4 (omega (arith, h.2, some))

-- its first word, which is as long as no byte ends it, and none where the line ends
pub first_word : (bs : List ℕ) (n : ℕ) → n ≡ position_or_len ends_word bs → 0 < n → before_hash bs ≡ take n bs ∷ before_hash (drop n bs)
first_word bs n e some =
    let within : n ≤ length bs = omega (arith, e, prefix_len-le-length (λ c. not (ends_word c)) bs) in
    let in_word : All (λ c. ends_word c ≡ false) (take n bs) = λ k d below. ap ends_word (get_or-take n bs k d (omega (arith, below, length-take n bs))) ∙ fails_before_first ends_word bs k d (omega (arith, e, below, length-take n bs)) in
    let ends : 0 < length (drop n bs) → ends_word (get_or (drop n bs) 0 0) ≡ true = λ more. ap ends_word (get_or-drop n bs 0 0 ∙ ap (λ i. get_or bs i 0) (omega (arith, e))) ∙ passes_at_first ends_word bs 0 (omega (arith, e, more, length-drop n bs)) in
    ap before_hash (sym (take-append-drop n bs)) ∙ words_word (take n bs) (drop n bs) (omega (arith, length-take-le n bs within, some)) in_word ends

hash_end : (c : ℕ) → ends_word c ≡ true → is_ascii_whitespace c ≡ false → is_hash c ≡ true
hash_end c ends white = grind (arith, nat_tests)

pub no_word : (bs : List ℕ) (n : ℕ) → n ≡ position_or_len ends_word bs → n ≡ 0 → (0 < length bs → is_ascii_whitespace (get_or bs 0 0) ≡ false) → before_hash bs ≡ []
no_word [] n e none white = refl
no_word (c ∷ cs) n e none white =
    let ends : ends_word c ≡ true = ap (λ i. ends_word (get_or (c ∷ cs) i 0)) (sym none ∙ e) ∙ passes_at_first ends_word (c ∷ cs) 0 (omega (arith, e, none)) in
    ap words (hash_first c cs (hash_end c ends (white (omega arith))))

-- a text may be cut where a word ends
ascii_end : (c : ℕ) → ends_word c ≡ true → c < 128
ascii_end c ends = grind (arith, nat_tests)

pub boundary : (bs : List ℕ) (n : ℕ) → n ≡ position_or_len ends_word bs → IsCharBoundary bs n
boundary bs n e = (
  omega (arith, e, prefix_len-le-length (λ c. not (ends_word c)) bs),
  λ below high. absurd (omega (arith, high, ascii_end (get_or bs n 0) (ap (λ i. ends_word (get_or bs i 0)) e ∙ passes_at_first ends_word bs 0 (omega (arith, e, below))))),
)
