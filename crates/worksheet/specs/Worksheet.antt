-- The worksheet of a town, a round and the parts of a sheet, line by line. Assumes nothing: these are definitions.
use Rattle.std.specs.Prelude.{ℕ, suc, ◌+◌, ◌*◌, ◌%◌, Bool, cond, ◌==◌, nat_le, List, [], ◌∷◌, ◌++◌, map, filter, sum, codes, decimal}
use Rattle.std.specs.List.{flat_map, range_with_len}
use Rattle.road.specs.declared.leg.Leg.{Leg}
use Rattle.road.specs.declared.street.Street.{Street}
use Rattle.road.specs.Roads.{Town, street, far, all_streets}
use Rattle.road.specs.Counts.{size}
use Rattle.road.specs.Model.{marked}
use Rattle.sheet.specs.Sheet.{Part, leads_out, ways_out, weights}

-- the numbers below n that pass a test
abbrev pub passing : ℕ → (ℕ → Bool) → List ℕ
passing n test = filter test (range_with_len 0 n)

-- a line for each of a list, numbered from k
abbrev pub numbered : {A : Type 0} → (ℕ → A → List ℕ) → ℕ → List A → List ℕ
numbered line k [] = []
numbered line k (x ∷ xs) = line k x ++ numbered line (suc k) xs

-- numbers in a row, or none
abbrev pub number_text : ℕ → List ℕ
number_text n = codes " " ++ decimal n

abbrev pub row_text : List ℕ → List ℕ
row_text [] = codes " none"
row_text (x ∷ xs) = flat_map number_text (x ∷ xs)

-- the numbers that come after the first of a sum
abbrev pub more_text : List ℕ → List ℕ
more_text xs = flat_map (λ x. codes " + " ++ decimal x) xs

-- numbers and what they come to
abbrev pub sum_text : List ℕ → List ℕ
sum_text [] = codes "0"
sum_text (x ∷ []) = decimal x
sum_text (x ∷ y ∷ zs) = decimal x ++ more_text (y ∷ zs) ++ (codes " = " ++ decimal (sum (x ∷ y ∷ zs)))

-- the crossings of a part, and the streets that lead out of it
abbrev pub crossings_of : Town → Part → List ℕ
crossings_of t p = passing t.crossings (marked p.marks)

abbrev pub streets_out : Town → Part → List ℕ
streets_out t p = passing (size t) (λ k. leads_out p.marks (street t k))

-- whether a number is odd, as it has to be
abbrev pub odd_text : ℕ → List ℕ
odd_text n = cond (n % 2 == 1) (codes "odd") (codes "even, not allowed")

-- part i: its crossings, the streets that lead out of it with their number, and its weight
abbrev pub crossings_text : Town → ℕ → Part → List ℕ
crossings_text t i p = codes "part " ++ (decimal i ++ codes ": crossings") ++ row_text (crossings_of t p)

abbrev pub out_text : List ℕ → List ℕ
out_text ks = codes "; out lead streets" ++ row_text ks

abbrev pub weight_text : ℕ → ℕ → List ℕ
weight_text n weight = codes ", " ++ (decimal n ++ (codes " of them (" ++ (odd_text n ++ (codes "); weight " ++ (decimal weight ++ codes "\n")))))

abbrev pub part_line : Town → ℕ → Part → List ℕ
part_line t i p = crossings_text t i p ++ out_text (streets_out t p) ++ weight_text (ways_out p.marks t.streets) p.weight

-- the weights of the parts out of which a street leads
abbrev pub borne : List Part → Street → List ℕ
borne ps s = map (λ (p : Part). p.weight) (filter (λ (p : Part). leads_out p.marks s) ps)

-- the most that a street may bear, and whether it bears more
abbrev pub most_text : List ℕ → ℕ → List ℕ
most_text ws most = cond (nat_le (sum ws) most) (codes ", at most " ++ (decimal most ++ codes "\n")) (codes ", more than " ++ (decimal most ++ codes ", not allowed\n"))

-- street k: the weights that it bears, and twice its length
abbrev pub bears_text : ℕ → List ℕ → ℕ → List ℕ
bears_text k ws most = codes "street " ++ (decimal k ++ codes ": bears ") ++ sum_text ws ++ most_text ws most

abbrev pub street_line : List Part → ℕ → Street → List ℕ
street_line ps k s = bears_text k (borne ps s) (2 * s.long)

-- the weights of all parts, the lengths of all streets, and those of the legs
abbrev pub all_weights : List Part → List ℕ
all_weights ps = map (λ (p : Part). p.weight) ps

abbrev pub street_lengths : Town → List ℕ
street_lengths t = map (λ (s : Street). s.long) t.streets

abbrev pub leg_lengths : Town → List Leg → List ℕ
leg_lengths t ls = map (λ (l : Leg). (street t l.by).long) ls

-- a sum, after some words
unfoldable pub sum_line : List ℕ → List ℕ → List ℕ
sum_line words xs = words ++ sum_text xs ++ codes "\n"

-- the sums of the weights, of all streets and of the round
abbrev pub weights_line : List Part → List ℕ
weights_line ps = sum_line (codes "all parts weigh ") (all_weights ps)

abbrev pub streets_line : Town → List ℕ
streets_line t = sum_line (codes "all streets measure ") (street_lengths t)

abbrev pub round_line : Town → List Leg → List ℕ
round_line t ls = sum_line (codes "the round measures ") (leg_lengths t ls)

abbrev pub sums_text : Town → List Leg → List Part → List ℕ
sums_text t ls ps = weights_line ps ++ streets_line t ++ round_line t ls

-- whether two numbers are equal
abbrev pub equal_text : ℕ → ℕ → List ℕ
equal_text m n = cond (m == n) (codes "they are equal") (codes "they differ")

-- twice the round; twice all streets and the weights; what these come to, and whether it is as much
unfoldable pub twice_round_text : ℕ → List ℕ
twice_round_text round = codes "twice the round is " ++ (decimal round ++ codes ", ")

unfoldable pub twice_streets_text : ℕ → ℕ → List ℕ
twice_streets_text streets weigh = codes "twice all streets and the weights are " ++ (decimal streets ++ (codes " + " ++ (decimal weigh ++ codes " = ")))

unfoldable pub outcome_text : ℕ → ℕ → List ℕ
outcome_text round shown = decimal shown ++ (codes ": " ++ (equal_text round shown ++ codes "\n"))

abbrev pub compared_text : ℕ → ℕ → ℕ → List ℕ
compared_text round streets weigh = twice_round_text round ++ twice_streets_text streets weigh ++ outcome_text round (streets + weigh)

abbrev pub compared_line : Town → List Leg → List Part → List ℕ
compared_line t ls ps = compared_text (2 * far t ls) (2 * all_streets t.streets) (weights ps)

-- a line for each part, a line for each street, the sums, and how they compare
abbrev pub worksheet_text : Town → List Leg → List Part → List ℕ
worksheet_text t ls ps = numbered (part_line t) 0 ps ++ numbered (street_line ps) 0 t.streets ++ sums_text t ls ps ++ compared_line t ls ps
