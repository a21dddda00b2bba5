-- A town that is written is read back, and so is a plan behind it. Assumes nothing.
use Rattle.std.proofs.Common.{◌≡◌, ℕ, suc, ◌+◌, ◌-◌, ◌*◌, ◌/◌, true, eqb, List, [], ◌∷◌, ◌++◌, map, length, get_or, decimal, codes, Ok, Result, refl, ap, ap₂, ◌∙◌, append_assoc, append-nil, length-append, mul-div_cancel, arith}
use Rattle.std.specs.List.{AllByRecursion, flat_map}
use Rattle.std.proofs.lemmas.List.{get_or_at, get_or-append-add}
use Rattle.std.proofs.lemmas.List.Elements.{recursion_from_All}
use Rattle.std.proofs.lemmas.Bool.{eq-eqb}
use Rattle.road.specs.declared.street.Street.{Street}
use Rattle.road.specs.Roads.{Town}
use Rattle.road.specs.Numbers.{streets_in}
use Rattle.road.proofs.Numbers.{legs_back}
use Rattle.sheet.proofs.Numbers.{sheet_back}
use Rattle.text.specs.declared.text_error.TextError.{TextError}
use Rattle.text.specs.Words.{lines_of}
use Rattle.text.specs.Entries.{Entry, Nothing, CrossingsAre, DepotIs, StreetIs}
use Rattle.text.specs.Format.{street_in, entries, TownNumbers, and_then, town_from}
use Rattle.text.specs.Texts.{town_of}
use Rattle.text.specs.Towns.{crossings_line, depot_line, street_line, town_text, street_numbers}
use Rattle.text.specs.Laws.{Short, ShortTown, ended, numbers_of, TownReadBack, PlanReadBack, WholeReadBack}
use Rattle.text.proofs.Spelled.{Word, spaced, line_text, lines_first}
use Rattle.text.proofs.Digits.{decimal_word}
use Rattle.text.proofs.WrittenLines.{street_words, crossings_spelled, depot_spelled, street_spelled, crossings_said, depot_said, street_said}
use Rattle.text.proofs.Behind.{next_line}
use Rattle.text.proofs.Back.{plan_behind, plan_on}

record ShortStreet (s : Street) : Type 0 where
  one : Short s.one
  two : Short s.two
  long : Short s.long

short_streets : (t : Town) (d : ℕ) → ShortTown t d → AllByRecursion ShortStreet t.streets
short_streets t d h = recursion_from_All ShortStreet t.streets (λ k e i. record { one = h.one k e i; two = h.two k e i; long = h.long k e i })

-- the lines of a town
abbrev words_of_street : Street → List (List ℕ)
words_of_street s = codes "street" ∷ street_words s

abbrev words_of_town : ℕ → ℕ → List Street → List (List (List ℕ))
words_of_town n d ss = (codes "crossings" ∷ decimal n ∷ []) ∷ (codes "depot" ∷ decimal d ∷ []) ∷ (map words_of_street ss ++ [] ∷ [])

lines_streets : (ss : List Street) → AllByRecursion ShortStreet ss → lines_of (flat_map street_line ss) ≡ map words_of_street ss ++ [] ∷ []
lines_streets [] h = refl
lines_streets (s ∷ ss) h =
    let street_word : Word (codes "street") = record { full = omega arith; in_word_all = refl } in
    ap (λ xs. lines_of (xs ++ flat_map street_line ss)) (street_spelled s)
    ∙ lines_first (codes "street") (street_words s) (flat_map street_line ss) street_word (decimal_word s.one h.0.one, (decimal_word s.two h.0.two, (decimal_word s.long h.0.long, tt)))
    ∙ ap (λ ls. words_of_street s ∷ ls) (lines_streets ss h.1)

lines_town : (t : Town) (d : ℕ) → ShortTown t d → lines_of (town_text t d) ≡ words_of_town t.crossings d t.streets
lines_town t d h =
    let crossings_word : Word (codes "crossings") = record { full = omega arith; in_word_all = refl } in
    let depot_word : Word (codes "depot") = record { full = omega arith; in_word_all = refl } in
    let rest = flat_map street_line t.streets in
    ap₂ (λ xs ys. lines_of (xs ++ (ys ++ rest))) (crossings_spelled t.crossings) (depot_spelled d)
    ∙ lines_first (codes "crossings") (decimal t.crossings ∷ []) (line_text (codes "depot") (decimal d ∷ []) ++ rest) crossings_word (decimal_word t.crossings h.crossings, tt)
    ∙ ap (λ zs. (codes "crossings" ∷ decimal t.crossings ∷ []) ∷ zs) (lines_first (codes "depot") (decimal d ∷ []) rest depot_word (decimal_word d h.depot, tt)
    ∙ ap (λ zs. (codes "depot" ∷ decimal d ∷ []) ∷ zs) (lines_streets t.streets (short_streets t d h)))

-- their entries
abbrev street_entries : List Street → List Entry
street_entries ss = map (λ s. StreetIs (street_numbers s)) ss ++ Nothing ∷ []

entries_streets : (i : ℕ) (es : List Entry) (ss : List Street) → AllByRecursion ShortStreet ss → entries true i es (map words_of_street ss ++ [] ∷ []) ≡ Ok (es ++ street_entries ss)
unfolding entries
entries_streets i es [] h = refl
entries_streets i es (s ∷ ss) h =
    let x = StreetIs (street_numbers s) in
    next_line true i es (words_of_street s) x (map words_of_street ss ++ [] ∷ []) (street_said i s h.0.one h.0.two h.0.long) refl
    ∙ entries_streets (suc i) (es ++ x ∷ []) ss h.1
    ∙ ap Ok (append_assoc es (x ∷ []) (street_entries ss))

entries_town : (t : Town) (d : ℕ) → ShortTown t d → entries true 1 [] (words_of_town t.crossings d t.streets) ≡ Ok (CrossingsAre t.crossings ∷ DepotIs d ∷ street_entries t.streets)
entries_town t d h =
    let x = CrossingsAre t.crossings in
    next_line true 1 [] (codes "crossings" ∷ decimal t.crossings ∷ []) x ((codes "depot" ∷ decimal d ∷ []) ∷ (map words_of_street t.streets ++ [] ∷ [])) (crossings_said 1 t.crossings h.crossings) refl
    ∙ next_line true 2 (x ∷ []) (codes "depot" ∷ decimal d ∷ []) (DepotIs d) (map words_of_street t.streets ++ [] ∷ []) (depot_said 2 d h.depot) refl
    ∙ entries_streets 3 (x ∷ DepotIs d ∷ []) t.streets (short_streets t d h)

streets_told : (ss : List Street) → flat_map street_in (street_entries ss) ≡ flat_map street_numbers ss
streets_told [] = refl
streets_told (s ∷ ss) = ap (λ xs. street_numbers s ++ xs) (streets_told ss)

pub town_read_back : TownReadBack
town_read_back t d h =
    ap (λ ls. and_then town_from (entries true 1 [] ls)) (lines_town t d h)
    ∙ ap (and_then town_from) (entries_town t d h)
    ∙ ap (λ (xs : List ℕ). let r : Result TownNumbers TextError = Ok (record { crossings = t.crossings; depot = d; streets = xs }) in r) (streets_told t.streets)

-- the text of a town is ended
ended_line : (w : List ℕ) (vs : List (List ℕ)) → ended (line_text w vs) ≡ true
ended_line w vs =
    let xs = w ++ spaced vs in
    let k = length (xs ++ 10 ∷ []) - 1 in
    eq-eqb (get_or (xs ++ 10 ∷ []) k 10) 10 (get_or_at xs 10 [] 10 k (omega (arith, length-append xs (10 ∷ []))))

ended_behind : (xs ys : List ℕ) → ended xs ≡ true → ended ys ≡ true → ended (xs ++ ys) ≡ true
ended_behind xs [] a b = ap ended (append-nil xs) ∙ a
ended_behind xs (y ∷ ys) a b =
    let place : length (xs ++ y ∷ ys) - 1 ≡ length xs + (length (y ∷ ys) - 1) = omega (arith, length-append xs (y ∷ ys)) in
    ap (λ k. eqb (get_or (xs ++ y ∷ ys) k 10) 10) place ∙ ap (λ c. eqb c 10) (get_or-append-add xs (y ∷ ys) (length (y ∷ ys) - 1) 10) ∙ b

ended_streets : (ss : List Street) → ended (flat_map street_line ss) ≡ true
ended_streets [] = refl
ended_streets (s ∷ ss) = ended_behind (street_line s) (flat_map street_line ss) (ap ended (street_spelled s) ∙ ended_line (codes "street") (street_words s)) (ended_streets ss)

ended_town : (t : Town) (d : ℕ) → ended (town_text t d) ≡ true
ended_town t d =
    ended_behind (crossings_line t.crossings) (depot_line d ++ flat_map street_line t.streets) (ap ended (crossings_spelled t.crossings) ∙ ended_line (codes "crossings") (decimal t.crossings ∷ []))
    (ended_behind (depot_line d) (flat_map street_line t.streets) (ap ended (depot_spelled d) ∙ ended_line (codes "depot") (decimal d ∷ [])) (ended_streets t.streets))

-- the streets of a town's numbers
length_streets : (ss : List Street) → length (flat_map street_numbers ss) ≡ length ss * 3
length_streets [] = omega arith
length_streets (s ∷ ss) = omega (arith, length_streets ss)

streets_each : (ss : List Street) → streets_in (length ss) (flat_map street_numbers ss) ≡ ss
unfolding streets_in
streets_each [] = refl
streets_each (s ∷ ss) = ap (λ (rs : List Street). s ∷ rs) (streets_each ss)

town_same : (t : Town) (d : ℕ) → town_of (numbers_of t d) ≡ t
town_same t d =
    let xs = flat_map street_numbers t.streets in
    let few : length xs / 3 ≡ length t.streets = ap (λ z. z / 3) (length_streets t.streets) ∙ mul-div_cancel (length t.streets) (omega arith) in
    ap (λ (ss : List Street). let u : Town = record { crossings = t.crossings; streets = ss } in u) (ap (λ m. streets_in m xs) few ∙ streets_each t.streets)

pub plan_read_back : PlanReadBack
plan_read_back text t ls long all ps e s = (plan_behind text t ls long all ps e s, plan_on text t ls long all ps e s)

pub whole_read_back : WholeReadBack
whole_read_back t d ls long all ps h s = (plan_on (town_text t d) (numbers_of t d) ls long all ps (town_read_back t d h) s (ended_town t d), town_same t d, legs_back ls, sheet_back t.crossings ps s.marks)
