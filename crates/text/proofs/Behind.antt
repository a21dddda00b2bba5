-- The entries of lines behind other lines. Assumes nothing.
use Rattle.std.proofs.Common.{◌≡◌, ℕ, suc, ◌+◌, Bool, List, [], ◌∷◌, ◌++◌, length, None, Ok, Err, Result, sym, refl, ap, ◌∙◌, add-zero, arith}
use Rattle.text.specs.declared.line_fault.LineFault.{LineFault}
use Rattle.text.specs.Entries.{Entry, entry}
use Rattle.text.specs.Format.{misplaced, placed, added, behind, entries, and_then}

-- the entries of the lines behind others are those behind their entries
pub entries_append : (alone : Bool) (i : ℕ) (before : List Entry) (xs ys : List (List (List ℕ))) →
    entries alone i before (xs ++ ys) ≡ and_then (λ es. entries alone (i + length xs) es ys) (entries alone i before xs)
unfolding entries
entries_append alone i before [] ys = ap (λ n. entries alone n before ys) (sym (add-zero i))
entries_append alone i before (x ∷ xs) ys = at (added alone before (entry i x)) (λ es. entries_append alone (suc i) es xs ys)
  where
    shift : suc i + length xs ≡ i + suc (length xs)
    shift = omega arith

    at : (r : Result (List Entry) LineFault) → ((es : List Entry) → entries alone (suc i) es (xs ++ ys) ≡ and_then (λ es. entries alone (suc i + length xs) es ys) (entries alone (suc i) es xs)) →
        behind i (λ es. entries alone (suc i) es (xs ++ ys)) r ≡ and_then (λ es. entries alone (i + suc (length xs)) es ys) (behind i (λ es. entries alone (suc i) es xs) r)
    at (Err f) ih = refl
    at (Ok es) ih = ih es ∙ ap (λ n. and_then (λ es. entries alone n es ys) (entries alone (suc i) es xs)) shift

-- one more line that says something in its place
pub next_line : (alone : Bool) (i : ℕ) (es : List Entry) (ws : List (List ℕ)) (x : Entry) (more : List (List (List ℕ))) → entry i ws ≡ Ok x → misplaced alone es x ≡ None →
    entries alone i es (ws ∷ more) ≡ entries alone (suc i) (es ++ x ∷ []) more
unfolding entries
next_line alone i es ws x more e p =
    ap (λ r. behind i (λ es. entries alone (suc i) es more) (added alone es r)) e ∙ ap (λ o. behind i (λ es. entries alone (suc i) es more) (placed o es x)) p
