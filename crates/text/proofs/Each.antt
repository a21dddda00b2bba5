-- Words that are read one by one. Assumes nothing.
use Rattle.std.proofs.Common.{◌≡◌, ℕ, ◌+◌, ◌<◌, ◌≤◌, Option, Some, None, Bor, List, [], ◌∷◌, ◌++◌, length, map, get_or, drop, sym, ap, ◌∙◌, refl, append-nil}
use Rattle.std.specs.Option.{option_map, option_and_then}
use Rattle.std.proofs.lemmas.List.{append_assoc, at_drop_more, drop_all}
use Rattle.text.specs.Words.{each}

-- what the numbers so far and the words that are left give together
abbrev pub with_rest : (List ℕ → Option ℕ) → List ℕ → List (Bor (List ℕ)) → Option (List ℕ)
with_rest one xs words = option_map (λ ys. xs ++ ys) (each one (map (λ w. w.now) words))

moved : (o : Option (List ℕ)) (xs : List ℕ) (x : ℕ) → option_map (λ ys. xs ++ ys) (option_and_then (λ ys. Some (x ∷ ys)) o) ≡ option_map (λ ys. (xs ++ x ∷ []) ++ ys) o
moved None xs x = refl
moved (Some ys) xs x = ap Some (sym (append_assoc xs (x ∷ []) ys))

-- a word that writes a number
pub one_read : (one : List ℕ → Option ℕ) (xs zs : List ℕ) (words : List (Bor (List ℕ))) (i : ℕ) (d : Bor (List ℕ)) (x : ℕ) (told : Option (List ℕ)) → with_rest one xs (drop i words) ≡ told →
    i < length words → one (get_or words i d).now ≡ Some x → zs ≡ xs ++ x ∷ [] → with_rest one zs (drop (i + 1) words) ≡ told
one_read one xs zs words i d x told e below reads z =
    ap (λ z. with_rest one z (drop (i + 1) words)) z
    ∙ sym (moved (each one (map (λ w. w.now) (drop (i + 1) words))) xs x)
    ∙ ap (λ o. option_map (λ ys. xs ++ ys) (option_and_then (λ x. option_and_then (λ ys. Some (x ∷ ys)) (each one (map (λ w. w.now) (drop (i + 1) words)))) o)) (sym reads)
    ∙ sym (at_drop_more (with_rest one xs) words i d below)
    ∙ e

-- a word that writes none
pub none_read : (one : List ℕ → Option ℕ) (xs : List ℕ) (words : List (Bor (List ℕ))) (i : ℕ) (d : Bor (List ℕ)) (told : Option (List ℕ)) → with_rest one xs (drop i words) ≡ told →
    i < length words → one (get_or words i d).now ≡ None → told ≡ None
none_read one xs words i d told e below reads =
    sym e
    ∙ at_drop_more (with_rest one xs) words i d below
    ∙ ap (λ o. option_map (λ ys. xs ++ ys) (option_and_then (λ x. option_and_then (λ ys. Some (x ∷ ys)) (each one (map (λ w. w.now) (drop (i + 1) words)))) o)) reads

-- all words are read
pub all_read : (one : List ℕ → Option ℕ) (xs : List ℕ) (words : List (Bor (List ℕ))) (i : ℕ) (told : Option (List ℕ)) → with_rest one xs (drop i words) ≡ told → length words ≤ i → told ≡ Some xs
all_read one xs words i told e over = sym e ∙ ap (with_rest one xs) (drop_all i words over) ∙ ap Some (append-nil xs)
