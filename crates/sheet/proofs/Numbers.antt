-- Sheets written as numbers are read back from them. Assumes nothing.
use Rattle.std.proofs.Common.{◌≡◌, ℕ, suc, ◌+◌, ◌*◌, ◌/◌, Bool, true, false, List, [], ◌∷◌, ◌++◌, map, length, take, drop, refl, ap, ◌∙◌, ap₂, suc-mul, mul-div_cancel, arith, length-append}
use lib.ListN.{length-map}
use Rattle.std.proofs.lemmas.List.{take_at, drop_at}
use Rattle.road.specs.Counts.{bit}
use Rattle.sheet.specs.Sheet.{Part}
use Rattle.sheet.specs.Numbers.{marks_in, parts_in, sheet_in, part_numbers, sheet_numbers, AllMarked}

marks_back : (ms : List Bool) → marks_in (map bit ms) ≡ ms
marks_back [] = refl
marks_back (true ∷ ms) = ap (λ (ms : List Bool). true ∷ ms) (marks_back ms)
marks_back (false ∷ ms) = ap (λ (ms : List Bool). false ∷ ms) (marks_back ms)

-- the front and the rest of a sheet's numbers
module _ (n : ℕ) (p : Part) (e : length p.marks ≡ n) (xs : List ℕ) where
  marks_front : marks_in (take n (map bit p.marks ++ xs)) ≡ p.marks
  marks_front = ap marks_in (take_at (map bit p.marks) xs n (length-map p.marks bit ∙ e)) ∙ marks_back p.marks

  marks_rest : drop (1 + n) (part_numbers p ++ xs) ≡ xs
  marks_rest = drop_at (part_numbers p) xs (1 + n) (omega (arith, length-map p.marks bit))

pub parts_back : (n : ℕ) (ps : List Part) → AllMarked n ps → parts_in (length ps) n (sheet_numbers ps) ≡ ps
unfolding parts_in
parts_back n [] h = refl
parts_back n (p ∷ ps) h =
    let e : length p.marks ≡ n = h 0 (omega arith) in
    ap₂ (λ (ms : List Bool) (qs : List Part). let q : Part = record { marks = ms; weight = p.weight } in q ∷ qs)
    (marks_front n p e (sheet_numbers ps))
    (ap (parts_in (length ps) n) (marks_rest n p e (sheet_numbers ps)) ∙ parts_back n ps (λ i l. h (suc i) (omega arith)))

pub length_sheet : (n : ℕ) (ps : List Part) → AllMarked n ps → length (sheet_numbers ps) ≡ length ps * (1 + n)
length_sheet n [] h = omega arith
length_sheet n (p ∷ ps) h =
    let e : length p.marks ≡ n = h 0 (omega arith) in
    let rest = length_sheet n ps (λ i l. h (suc i) (omega arith)) in
    omega (arith, length-append (part_numbers p) (sheet_numbers ps), length-map p.marks bit, suc-mul (length ps) (1 + n))

pub sheet_back : (n : ℕ) (ps : List Part) → AllMarked n ps → sheet_in n (sheet_numbers ps) ≡ ps
sheet_back n ps h =
    let few : length (sheet_numbers ps) / (1 + n) ≡ length ps = ap (λ z. z / (1 + n)) (length_sheet n ps h) ∙ mul-div_cancel (length ps) (omega arith) in
    ap (λ z. parts_in z n (sheet_numbers ps)) few ∙ parts_back n ps h
