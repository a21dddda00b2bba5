-- Parts that are written one by one. Assumes nothing.
use Rattle.std.proofs.Common.{◌≡◌, ℕ, ◌+◌, ◌-◌, ◌/◌, ◌<◌, List, [], ◌∷◌, ◌++◌, length, get_or, take, drop, sym, ap, subst, length-append, add-one, ◌∙◌, ap₂, arith}
use native.Mathlib.Nat.{div-eq_of_lt}
use Rattle.std.specs.List.{flat_map}
use Rattle.std.proofs.lemmas.List.{append_assoc, append-nil, take_all}
use Rattle.sheet.specs.Numbers.{parts_in, sheet_in}
use Rattle.std.proofs.Math.Nat.{add-div_left}
use Rattle.std.proofs.Math.Seq.{take-append_seam, drop-append_seam}
use Rattle.text.specs.Plans.{part_in, part_line}

-- the part at the front of the numbers is the first of the sheet
first_part : (x : ℕ) (xs ys : List ℕ) → sheet_in (length xs) ((x ∷ xs) ++ ys) ≡ part_in x xs ∷ sheet_in (length xs) ys
unfolding parts_in
first_part x xs ys =
    let n = length xs in
    let l : length ((x ∷ xs) ++ ys) ≡ (1 + n) + length ys = omega (arith, length-append (x ∷ xs) ys) in
    let pos : 0 < 1 + n = omega arith in
    let e : 1 + n ≡ length (x ∷ xs) = omega arith in
    let d : drop (1 + n) ((x ∷ xs) ++ ys) ≡ ys = ap (λ z. drop z ((x ∷ xs) ++ ys)) e ∙ drop-append_seam (x ∷ xs) ys in
    ap (λ z. parts_in z n ((x ∷ xs) ++ ys)) (ap (λ z. z / (1 + n)) l ∙ add-div_left (length ys) pos ∙ add-one (length ys / (1 + n)))
    ∙ ap₂ (λ ms zs. part_in x ms ∷ parts_in (length ys / (1 + n)) n zs) (take-append_seam xs ys) d

-- one more part is written, and is no longer left
pub next_part : (n : ℕ) (s t u xs ys zs : List ℕ) → zs ≡ xs ++ ys → length xs ≡ 1 + n →
    t ++ flat_map part_line (sheet_in n zs) ≡ s → u ≡ t ++ part_line (part_in (get_or xs 0 0) (take (length xs - 1) (drop 1 xs))) → u ++ flat_map part_line (sheet_in n ys) ≡ s
next_part n s t u [] ys zs z l e f = absurd (omega arith)
next_part n s t u (x ∷ xs) ys zs z l e f =
    let m : length xs ≡ n = omega arith in
    let p : sheet_in n zs ≡ part_in x xs ∷ sheet_in n ys = ap (sheet_in n) z ∙ subst (λ k. sheet_in k ((x ∷ xs) ++ ys) ≡ part_in x xs ∷ sheet_in k ys) m (first_part x xs ys) in
    ap (λ w. w ++ flat_map part_line (sheet_in n ys)) (f ∙ ap (λ ms. t ++ part_line (part_in x ms)) (take_all (length (x ∷ xs) - 1) xs (omega arith)))
    ∙ append_assoc t (part_line (part_in x xs)) (flat_map part_line (sheet_in n ys))
    ∙ ap (λ ps. t ++ flat_map part_line ps) (sym p)
    ∙ e

-- numbers that are fewer than a part has are no part
no_parts : (n : ℕ) (xs : List ℕ) → length xs < 1 + n → flat_map part_line (sheet_in n xs) ≡ []
unfolding parts_in
no_parts n xs h = ap (λ z. flat_map part_line (parts_in z n xs)) (div-eq_of_lt h)

-- no part is left, so all are written
pub all_parts : (n : ℕ) (s t xs : List ℕ) → length xs < 1 + n → t ++ flat_map part_line (sheet_in n xs) ≡ s → t ≡ s
all_parts n s t xs h e = sym (ap (λ z. t ++ z) (no_parts n xs h) ∙ append-nil t) ∙ e
