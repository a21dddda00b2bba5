-- Words and lines that are written are read back. Assumes nothing.
use Rattle.std.proofs.Common.{◌≡◌, ℕ, ◌<◌, Bool, true, false, not, ◌||◌, cond, List, [], ◌∷◌, ◌++◌, map, length, get_or, refl, ap, ◌∙◌, append_assoc, append-nil, arith}
use Rattle.std.specs.List.{All, AllByRecursion, list_all, flat_map, slice_split, onto_first, before_first, position_or_len}
use Rattle.std.specs.Char.{is_newline}
use Rattle.std.proofs.lemmas.List.{take_all, map-append}
use Rattle.std.proofs.lemmas.List.Elements.{All-weaker}
use Rattle.std.proofs.lemmas.List.Sums.{AllPass-from_list_all, list_all-from_AllPass, position_or_len_is}
use Rattle.std.proofs.lemmas.List.Folds.{list_all-append}
use Rattle.std.proofs.lemmas.List.Splits.{slice_split_none, length-slice_split}
use Rattle.std.proofs.lemmas.Bool.{and_from, or_parts, not-true}
use Rattle.std.proofs.lemmas.Bool.Decides.{nat_tests}
use Rattle.text.specs.Words.{words, is_hash, ends_word, lines_of}
use Rattle.text.proofs.Cutting.{word_alone, word_more}

-- a byte of a word: no white space, and no '#'
abbrev pub in_word : ℕ → Bool
in_word c = not (ends_word c)

-- a byte of a line: no newline, and no '#'
abbrev pub in_line : ℕ → Bool
in_line c = not (is_newline c || is_hash c)

pub record Word (w : List ℕ) : Type 0 where
  pub full : 0 < length w
  pub in_word_all : list_all in_word w ≡ true

line_word : (c : ℕ) → in_word c ≡ true → in_line c ≡ true
line_word c h = grind (arith, nat_tests)

no_end : (w : List ℕ) → list_all in_word w ≡ true → All (λ c. ends_word c ≡ false) w
no_end w h = All-weaker (λ c. in_word c ≡ true) (λ c. ends_word c ≡ false) (λ c e. not-true (ends_word c) e) w (AllPass-from_list_all in_word w h)

-- words, each behind a space
abbrev pub spaced : List (List ℕ) → List ℕ
spaced vs = flat_map (λ v. 32 ∷ v) vs

pub words_spelled : (w : List ℕ) (vs : List (List ℕ)) → Word w → AllByRecursion Word vs → words (w ++ spaced vs) ≡ w ∷ vs
words_spelled w [] h hs = ap words (append-nil w) ∙ word_alone w h.full (no_end w h.in_word_all)
words_spelled w (v ∷ vs) h hs = word_more w 32 (v ++ spaced vs) h.full (no_end w h.in_word_all) refl ∙ ap (λ us. w ∷ us) (words_spelled v vs hs.0 hs.1)

-- a newline ends a line
onto_front : {X : Type 0} (x : X) (ps qs : List (List X)) → 0 < length ps → onto_first x (ps ++ qs) ≡ onto_first x ps ++ qs
onto_front x [] qs h = absurd (omega arith)
onto_front x (p ∷ ps) qs h = refl

split_at : (xs ys : List ℕ) → slice_split is_newline (xs ++ 10 ∷ ys) ≡ slice_split is_newline xs ++ slice_split is_newline ys
split_at [] ys = refl
split_at (x ∷ xs) ys = at (is_newline x) (split_at xs ys)
  where
    at : (b : Bool) → slice_split is_newline (xs ++ 10 ∷ ys) ≡ slice_split is_newline xs ++ slice_split is_newline ys →
        cond b ([] ∷ slice_split is_newline (xs ++ 10 ∷ ys)) (onto_first x (slice_split is_newline (xs ++ 10 ∷ ys)))
        ≡ cond b ([] ∷ slice_split is_newline xs) (onto_first x (slice_split is_newline xs)) ++ slice_split is_newline ys
    at true e = ap (λ ps. [] ∷ ps) e
    at false e = ap (onto_first x) e ∙ onto_front x (slice_split is_newline xs) (slice_split is_newline ys) (omega (arith, length-slice_split is_newline xs))

pub lines_apart : (xs ys : List ℕ) → lines_of (xs ++ 10 ∷ ys) ≡ lines_of xs ++ lines_of ys
lines_apart xs ys =
    ap (map (λ l. words (before_first is_hash l))) (split_at xs ys) ∙ map-append (λ l. words (before_first is_hash l)) (slice_split is_newline xs) (slice_split is_newline ys)

-- a line of words
line_of_word : (w : List ℕ) → list_all in_word w ≡ true → list_all in_line w ≡ true
line_of_word w h = list_all-from_AllPass in_line w (All-weaker (λ c. in_word c ≡ true) (λ c. in_line c ≡ true) line_word w (AllPass-from_list_all in_word w h))

line_both : (xs ys : List ℕ) → list_all in_line xs ≡ true → list_all in_line ys ≡ true → list_all in_line (xs ++ ys) ≡ true
line_both xs ys a b = list_all-append in_line xs ys ∙ and_from (list_all in_line xs) (list_all in_line ys) a b

line_spaced : (vs : List (List ℕ)) → AllByRecursion Word vs → list_all in_line (spaced vs) ≡ true
line_spaced [] hs = refl
line_spaced (v ∷ vs) hs = line_both v (spaced vs) (line_of_word v hs.0.in_word_all) (line_spaced vs hs.1)

unmarked : (xs : List ℕ) → list_all in_line xs ≡ true → before_first is_hash xs ≡ xs
unmarked xs h =
    let none : (k : ℕ) → k < length xs → is_hash (get_or xs k 0) ≡ false = λ k i. (or_parts (is_newline (get_or xs k 0)) (is_hash (get_or xs k 0)) (not-true _ (AllPass-from_list_all in_line xs h k 0 i))).1 in
    let e : position_or_len is_hash xs ≡ length xs = position_or_len_is is_hash xs (length xs) 0 (omega arith) none (λ i. absurd (omega arith)) in
    take_all (position_or_len is_hash xs) xs (omega arith)

lines_one : (xs : List ℕ) → list_all in_line xs ≡ true → lines_of xs ≡ words xs ∷ []
lines_one xs h =
    let none = All-weaker (λ c. in_line c ≡ true) (λ c. is_newline c ≡ false) (λ c e. (or_parts (is_newline c) (is_hash c) (not-true _ e)).0) xs (AllPass-from_list_all in_line xs h) in
    ap (map (λ l. words (before_first is_hash l))) (slice_split_none is_newline xs none) ∙ ap (λ l. words l ∷ []) (unmarked xs h)

abbrev pub line_text : List ℕ → List (List ℕ) → List ℕ
line_text w vs = (w ++ spaced vs) ++ 10 ∷ []

pub lines_first : (w : List ℕ) (vs : List (List ℕ)) (rest : List ℕ) → Word w → AllByRecursion Word vs → lines_of (line_text w vs ++ rest) ≡ (w ∷ vs) ∷ lines_of rest
lines_first w vs rest h hs =
    let inside = line_both w (spaced vs) (line_of_word w h.in_word_all) (line_spaced vs hs) in
    ap lines_of (append_assoc (w ++ spaced vs) (10 ∷ []) rest) ∙ lines_apart (w ++ spaced vs) rest
    ∙ ap (λ ls. ls ++ lines_of rest) (lines_one (w ++ spaced vs) inside ∙ ap (λ l. l ∷ []) (words_spelled w vs h hs))
