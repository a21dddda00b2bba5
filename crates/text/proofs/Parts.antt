-- The parts of a text as numbers, one by one. Assumes nothing.
use Rattle.std.proofs.Common.{◌≡◌, ℕ, ◌+◌, ◌<◌, ◌≤◌, Bool, true, false, Option, Result, Ok, Err, List, [], ◌∷◌, ◌++◌, length, map, get_or, drop, min, nat_lt, vec_items, sym, ap, ◌∙◌, refl, append-nil}
use Rattle.std.specs.List.{flat_map, list_all}
use Rattle.std.proofs.lemmas.Bool.{false≢true}
use Rattle.std.proofs.lemmas.List.{append_assoc, at_drop_more, drop_all}
use Rattle.road.specs.First.{unless, ◌then◌}
use Rattle.text.specs.declared.line.PartLine.{PartLine}
use Rattle.text.specs.declared.line_fault.LineFault.TheVariants.{PartCrossing}
use Rattle.text.specs.declared.text_error.TextError.{TextError}
use Rattle.text.specs.declared.text_error.TextError.TheVariants.{Line}
use Rattle.text.specs.Format.{marks_of, part_numbers, part_fault, unless_wrong}
use Rattle.text.specs.Lines.{part_entry}

-- what the numbers so far and the parts that are left give together
abbrev pub with_parts : ℕ → List ℕ → List PartLine → Result (List ℕ) TextError
with_parts n xs ps = unless_wrong (part_fault n (map part_entry ps)) (xs ++ flat_map (part_numbers n) (map part_entry ps))

pub value_of : {A E : Type 0} {x y : A} → ◌≡◌ {A = Result A E} (Ok x) (Ok y) → x ≡ y
value_of e = cc

inside : {A : Type 0} (o : Option TextError) (e : TextError) (x : A) (kept : Bool) → kept ≡ true → unless_wrong (unless kept e then o) x ≡ unless_wrong o x
inside o e x true k = refl
inside o e x false k = absurd (false≢true k)

outside : {A : Type 0} (o : Option TextError) (e : TextError) (x : A) (kept : Bool) → kept ≡ false → unless_wrong (unless kept e then o) x ≡ Err e
outside o e x false k = refl
outside o e x true k = absurd (false≢true (sym k))

-- a part with crossings of the town
pub next_part : (n : ℕ) (xs zs : List ℕ) (ps : List PartLine) (i : ℕ) (p : PartLine) (told : Result (List ℕ) TextError) → with_parts n xs (drop i ps) ≡ told → i < length ps → p ≡ get_or ps i p →
    list_all (λ v. nat_lt v n) (vec_items p.crossings) ≡ true → zs ≡ (xs ++ p.weight ∷ []) ++ marks_of (min n 100) (vec_items p.crossings) → with_parts n zs (drop (i + 1) ps) ≡ told
next_part n xs zs ps i p told e below is within z =
    let rest = map part_entry (drop (i + 1) ps) in
    let its = part_numbers n (part_entry p) in
    ap (λ z. unless_wrong (part_fault n rest) (z ++ flat_map (part_numbers n) rest)) (z ∙ append_assoc xs (p.weight ∷ []) (marks_of (min n 100) (vec_items p.crossings)))
    ∙ ap (unless_wrong (part_fault n rest)) (append_assoc xs its (flat_map (part_numbers n) rest))
    ∙ sym (inside (part_fault n rest) (Line p.line PartCrossing) (xs ++ (its ++ flat_map (part_numbers n) rest)) _ within)
    ∙ ap (λ q. with_parts n xs (q ∷ drop (i + 1) ps)) is
    ∙ sym (at_drop_more (with_parts n xs) ps i p below)
    ∙ e

-- a part with another crossing
pub other_part : (n : ℕ) (xs : List ℕ) (ps : List PartLine) (i : ℕ) (p : PartLine) (told : Result (List ℕ) TextError) → with_parts n xs (drop i ps) ≡ told → i < length ps → p ≡ get_or ps i p →
    list_all (λ v. nat_lt v n) (vec_items p.crossings) ≡ false → told ≡ Err (Line p.line PartCrossing)
other_part n xs ps i p told e below is outer =
    let rest = map part_entry (drop (i + 1) ps) in
    sym e ∙ at_drop_more (with_parts n xs) ps i p below ∙ sym (ap (λ q. with_parts n xs (q ∷ drop (i + 1) ps)) is)
    ∙ outside (part_fault n rest) (Line p.line PartCrossing) (xs ++ flat_map (part_numbers n) (part_entry p ∷ rest)) _ outer

-- no part is left
pub all_parts : (n : ℕ) (xs : List ℕ) (ps : List PartLine) (i : ℕ) (told : Result (List ℕ) TextError) → with_parts n xs (drop i ps) ≡ told → length ps ≤ i → told ≡ Ok xs
all_parts n xs ps i told e over = sym e ∙ ap (with_parts n xs) (drop_all i ps over) ∙ ap Ok (append-nil xs)
