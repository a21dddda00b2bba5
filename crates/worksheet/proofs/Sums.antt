-- The weights of parts in lists, and what they come to. Assumes nothing.
use Rattle.std.proofs.Common.{◌≡◌, ℕ, ◌+◌, ◌*◌, ◌≤◌, Fits, w64, Bool, true, false, cond, List, [], ◌∷◌, length, get_or, map, filter, sum, refl, sym, ap, ◌∙◌, arith}
use Rattle.std.proofs.lemmas.List.Elements.{All-from_get_or}
use Rattle.std.proofs.lemmas.List.Sums.{sum_by-cons, sum_by-le, sum-map}
use Rattle.std.proofs.lemmas.List.Recursion.{is_sum_by}
use Rattle.road.specs.declared.street.Street.{Street}
use Rattle.road.specs.declared.leg.Leg.{Leg}
use Rattle.road.specs.Roads.{pick, Town, street, far, all_streets}
use Rattle.road.proofs.Lengths.{all_streets_by}
use Rattle.sheet.specs.Sheet.{Part, leads_out, load, weights}
use Rattle.worksheet.specs.declared.part.Part as parts
use Rattle.worksheet.specs.Model.{part_of, parts_of}
use Rattle.worksheet.specs.Worksheet.{borne, all_weights, street_lengths, leg_lengths}

-- the weights that a street bears, from the parts of the code
kept : (b : Bool) (p : parts.Part) (ps : List Part) (qs : List parts.Part) → all_weights ps ≡ map (λ q. q.weight) qs → all_weights (cond b (part_of p ∷ ps) ps) ≡ map (λ q. q.weight) (cond b (p ∷ qs) qs)
kept true p ps qs e = ap (λ ws. p.weight ∷ ws) e
kept false p ps qs e = e

pub borne_by : (ps : List parts.Part) (s : Street) → borne (parts_of ps) s ≡ map (λ p. p.weight) (filter (λ p. leads_out (part_of p).marks s) ps)
borne_by [] s = refl
borne_by (p ∷ ps) s = kept (leads_out (part_of p).marks s) p _ _ (borne_by ps s)

-- what a street bears is the sum of the weights that it bears
counted : (b : Bool) (w n : ℕ) (ps : List Part) (p : Part) → w ≡ p.weight → n ≡ sum (all_weights ps) → pick b w 0 + n ≡ sum (all_weights (cond b (p ∷ ps) ps))
counted true w n ps p e f = omega (arith, e, f, sum_by-cons (λ x. x) p.weight (all_weights ps))
counted false w n ps p e f = omega (arith, f)

pub load_is : (ps : List Part) (s : Street) → load ps s ≡ sum (borne ps s)
unfolding load
load_is [] s = refl
load_is (p ∷ ps) s = counted (leads_out p.marks s) p.weight (load ps s) _ p refl (load_is ps s)

-- and so with what all weigh, and with the lengths
pub weights_is : (ps : List Part) → weights ps ≡ sum (all_weights ps)
unfolding weights
weights_is ps = is_sum_by weights (λ p. p.weight) refl (λ _ _. refl) ps ∙ sym (sum-map (λ (p : Part). p.weight) ps)

pub all_streets_is : (t : Town) → all_streets t.streets ≡ sum (street_lengths t)
all_streets_is t = all_streets_by t.streets ∙ sym (sum-map (λ (s : Street). s.long) t.streets)

pub far_is : (t : Town) (ls : List Leg) → far t ls ≡ sum (leg_lengths t ls)
unfolding far
far_is t ls = is_sum_by (far t) (λ l. (street t l.by).long) refl (λ _ _. refl) ls ∙ sym (sum-map (λ (l : Leg). (street t l.by).long) ls)

-- numbers below 2^64 come to at most so much
pub sum_most : (xs : List ℕ) → ((i : ℕ) → Fits w64 (get_or xs i 0)) → sum xs ≤ 18446744073709551615 * length xs
sum_most xs h = omega (arith, sum_by-le (λ x. x) 18446744073709551615 xs (All-from_get_or (λ x. x ≤ 18446744073709551615) xs 0 (λ i _. omega (arith, h i))))
