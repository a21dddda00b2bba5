-- Parts as numbers: what stands at which place. Assumes nothing.
use Rattle.std.proofs.Common.{◌≡◌, ℕ, zero, suc, ◌+◌, ◌*◌, ◌/◌, ◌<◌, ◌≤◌, Bool, false, not, ltb, List, [], ◌∷◌, length, get_or, take, drop, sym, refl, ap, ◌∙◌, ap₂, subst, suc-mul, zero-mul, arith}
use mathlib.Core.Bool.{beq}
use Rattle.std.proofs.lemmas.List.{drop-drop, get_or-drop, get_or-take}
use Rattle.road.specs.declared.street.Street.{Street}
use Rattle.road.specs.Counts.{◌⊕◌, sum}
use Rattle.road.specs.Model.{marked}
use Rattle.road.proofs.Parity.{unequal}
use Rattle.road.proofs.Sums.{sum_most}
use Rattle.sheet.specs.declared.parts.Parts.{Parts}
use Rattle.sheet.specs.Sheet.{Part, no_part, leads_out}
use Rattle.sheet.specs.Numbers.{marks_in, parts_in}
use Rattle.sheet.specs.Model.{parts_of}

-- the part at the front of the numbers
abbrev pub front : ℕ → List ℕ → Part
front n xs = record { marks = marks_in (take n (drop 1 xs)); weight = get_or xs 0 0 }

pub length_parts : (m n : ℕ) (xs : List ℕ) → length (parts_in m n xs) ≡ m
unfolding parts_in
length_parts zero n xs = refl
length_parts (suc m) n xs = ap suc (length_parts m n (drop (1 + n) xs))

-- each part stands 1 + n numbers after the one before
pub part_at : (m n : ℕ) (xs : List ℕ) (i : ℕ) → i < m → get_or (parts_in m n xs) i no_part ≡ front n (drop (i * (1 + n)) xs)
unfolding parts_in
part_at zero n xs i h = absurd (omega arith)
part_at (suc m) n xs zero h = ap (λ a. front n (drop a xs)) (sym (zero-mul (1 + n)))
part_at (suc m) n xs (suc i) h =
    part_at m n (drop (1 + n) xs) i (omega arith)
    ∙ ap (front n) (drop-drop (i * (1 + n)) (1 + n) xs ∙ ap (λ a. drop a xs) (omega (arith, suc-mul i (1 + n))))

getD_marks : (xs : List ℕ) (v : ℕ) → get_or (marks_in xs) v false ≡ ltb 0 (get_or xs v 0)
getD_marks [] v = refl
getD_marks (x ∷ xs) zero = refl
getD_marks (x ∷ xs) (suc v) = getD_marks xs v

-- weight and marks, by their places
pub weight_at : (m n : ℕ) (xs : List ℕ) (i a : ℕ) → i < m → a ≡ i * (1 + n) → get_or xs a 0 ≡ (get_or (parts_in m n xs) i no_part).weight
weight_at m n xs i a h e =
    sym (ap (λ (p : Part). p.weight) (part_at m n xs i h) ∙ get_or-drop (i * (1 + n)) xs 0 0 ∙ ap (λ z. get_or xs z 0) (omega arith))

pub mark_at : (m n : ℕ) (xs : List ℕ) (i a v : ℕ) → i < m → a ≡ i * (1 + n) → v < n → ltb 0 (get_or xs (a + 1 + v) 0) ≡ marked (get_or (parts_in m n xs) i no_part).marks v
mark_at m n xs i a v h e l =
    sym (
    ap (λ (p : Part). marked p.marks v) (part_at m n xs i h)
    ∙ getD_marks (take n (drop 1 (drop (i * (1 + n)) xs))) v
    ∙ ap (ltb 0) (get_or-take n (drop 1 (drop (i * (1 + n)) xs)) v 0 l ∙ get_or-drop 1 (drop (i * (1 + n)) xs) v 0 ∙ get_or-drop (i * (1 + n)) xs (1 + v) 0 ∙ ap (λ z. get_or xs z 0) (omega arith))
    )

-- a street leads out if the marks of its ends differ
pub leads_is : (ms : List Bool) (s s' : Street) (a b : Bool) → a ≡ marked ms s.one → b ≡ marked ms s.two → s ≡ s' → not (beq a b) ≡ leads_out ms s'
unfolding leads_out
leads_is ms s s' a b p q e = unequal a b ∙ ap₂ (λ x y. x ⊕ y) p q ∙ ap (λ (z : Street). marked ms z.one ⊕ marked ms z.two) e

-- how many parts there are
pub count_is : (p : Parts) → length (parts_of p) ≡ length p.numbers.now / (1 + p.town.now.crossings)
count_is p = length_parts (length p.numbers.now / (1 + p.town.now.crossings)) p.town.now.crossings p.numbers.now

-- a part stands within the numbers
pub part_within : (p : Parts) (i : ℕ) → i < length (parts_of p) → i * (1 + p.town.now.crossings) + p.town.now.crossings < length p.numbers.now
part_within p i h = grind (arith, h, count_is p, p.whole)

-- what the parts weigh together, at most
abbrev pub weight_in : Parts → ℕ → ℕ
weight_in p i = (get_or (parts_of p) i no_part).weight

pub weights_most : (p : Parts) → sum (length (parts_of p)) (weight_in p) ≤ 4000000000
weights_most p =
    let e = count_is p in
    let light : (i : ℕ) → i < length (parts_of p) → weight_in p i ≤ 10000000 =
    λ i h. subst (λ w. w ≤ 10000000) (weight_at _ p.town.now.crossings p.numbers.now i (i * (1 + p.town.now.crossings)) (subst (λ m. i < m) e h) refl) (p.light i (subst (λ m. i < m) e h)) in
    omega (arith, sum_most (length (parts_of p)) 10000000 (weight_in p) light, e, p.few)
