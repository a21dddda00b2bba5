-- Lines and numbers that are written one by one. Assumes nothing.
use Rattle.std.proofs.Common.{◌≡◌, ℕ, ◌+◌, ◌<◌, ◌≤◌, List, [], ◌∷◌, ◌++◌, length, get_or, take, drop, Result, Ok, Err, OnOk, sym, ap, subst, ◌∙◌, add-one, append_assoc, append-nil}
use Rattle.std.specs.List.{flat_map}
use Rattle.std.proofs.lemmas.List.{take_all, take_more, flat_map_more, at_drop_more, drop_all}
use Rattle.worksheet.specs.Worksheet.{numbered}

-- one more line is written, and is no longer left
pub next_line : {A : Type 0} (line : ℕ → A → List ℕ) (i : ℕ) (s t u : List ℕ) (x : A) (xs ys : List A) → xs ≡ x ∷ ys → t ++ numbered line i xs ≡ s → u ≡ t ++ line i x → u ++ numbered line (i + 1) ys ≡ s
next_line line i s t u x xs ys split e w =
    ap (λ z. z ++ numbered line (i + 1) ys) w
    ∙ append_assoc t (line i x) (numbered line (i + 1) ys)
    ∙ ap (λ k. t ++ (line i x ++ numbered line k ys)) (add-one i)
    ∙ ap (λ zs. t ++ numbered line i zs) (sym split)
    ∙ e

-- no line is left
pub all_lines : {A : Type 0} (line : ℕ → A → List ℕ) (i : ℕ) (s t : List ℕ) (xs : List A) → xs ≡ [] → t ++ numbered line i xs ≡ s → t ≡ s
all_lines line i s t xs none e = sym (append-nil t) ∙ ap (λ zs. t ++ numbered line i zs) (sym none) ∙ e

-- one more number is written
pub next_number : (f : ℕ → List ℕ) (s t u xs : List ℕ) (i d : ℕ) → i < length xs → t ≡ s ++ flat_map f (take i xs) → u ≡ t ++ f (get_or xs i d) → u ≡ s ++ flat_map f (take (i + 1) xs)
next_number f s t u xs i d below e w =
    w
    ∙ ap (λ z. z ++ f (get_or xs i d)) e
    ∙ flat_map_more f s (take i xs) (get_or xs i d)
    ∙ ap (λ ys. s ++ flat_map f ys) (sym (take_more xs i d below))

-- and so all are
pub all_numbers : (f : ℕ → List ℕ) (s t xs : List ℕ) (i : ℕ) → length xs ≤ i → t ≡ s ++ flat_map f (take i xs) → t ≡ s ++ flat_map f xs
all_numbers f s t xs i over e = e ∙ ap (λ ys. s ++ flat_map f ys) (take_all i xs over)

-- a list and its like, at an element and past the last
pub split_at : {A : Type 0} (xs ys : List A) (i : ℕ) (d : A) → xs ≡ ys → i < length xs → drop i ys ≡ get_or xs i d ∷ drop (i + 1) ys
split_at xs ys i d e below = subst (λ zs. drop i zs ≡ get_or xs i d ∷ drop (i + 1) zs) e (at_drop_more (λ zs. zs) xs i d below)

pub none_at : {A : Type 0} (xs ys : List A) (i : ℕ) → xs ≡ ys → length xs ≤ i → drop i ys ≡ []
none_at xs ys i e over = subst (λ zs. drop i zs ≡ []) e (drop_all i xs over)

-- three pieces, the last of which may fail
pub three_pieces : {X E : Type 0} (r : Result X E) (s a b c t u v : List ℕ) → t ≡ s ++ a → u ≡ t ++ b → OnOk r (v ≡ u ++ c) → OnOk r (v ≡ s ++ (a ++ b ++ c))
three_pieces (Ok x) s a b c t u v e f g = g ∙ ap (λ z. z ++ c) (f ∙ ap (λ z. z ++ b) e ∙ append_assoc s a b) ∙ append_assoc s (a ++ b) c
three_pieces (Err x) s a b c t u v e f g = tt
