-- The border of a part as a cut; how often drives and streets cross it, as sums; what streets bear. Assumes nothing.
use Rattle.std.proofs.Common.{◌≡◌, ℕ, ◌+◌, ◌*◌, ◌%◌, Bool, true, false, eqb, List, [], ◌∷◌, length, get_or, sym, refl, ap, ◌∙◌, arith}
use Rattle.road.specs.declared.street.Street.{Street}
use Rattle.road.specs.declared.leg.Leg.{Leg}
use Rattle.road.specs.Roads.{Town, street, Drive, times, no_street}
use Rattle.road.specs.Counts.{when, bit, odd, sum, par, size, cut}
use Rattle.road.proofs.Parity.{odd_bit, odd_mod}
use Rattle.road.proofs.Sums.{sum_front, par_ext, odd_sum}
use Rattle.road.proofs.Drives.{along, along_sum, drive_cut}
use Rattle.road.specs.Model.{marked}
use Rattle.sheet.specs.Sheet.{Part, no_part, leads_out, ways_out, load, weights}
use Rattle.sheet.specs.Shown.{crosses, HomeEven}

-- a street leads out of a part just if the marks cut it
pub leads_cut : (t : Town) (ms : List Bool) (k : ℕ) → leads_out ms (street t k) ≡ cut t (marked ms) k
unfolding leads_out
leads_cut t ms k = refl

-- 1 if street k leads out of the part, else 0
abbrev pub leads : Town → List Bool → ℕ → ℕ
leads t ms k = bit (leads_out ms (street t k))

-- how many drives cross the border, where street k is driven c k times
abbrev pub crossings_of : Town → List Bool → (ℕ → ℕ) → ℕ
crossings_of t ms c = sum (size t) (λ k. c k * leads t ms k)

-- by legs
crosses_along : (t : Town) (ms : List Bool) (ls : List Leg) → crosses t ms ls ≡ along (leads t ms) ls
unfolding crosses
crosses_along t ms [] = refl
crosses_along t ms (l ∷ ls) = ap (λ x. leads t ms l.by + x) (crosses_along t ms ls)

-- how often a drive crosses a border, counted over the streets
pub crosses_sum : (t : Town) (ms : List Bool) {v w : ℕ} {ls : List Leg} → Drive t v ls w → crosses t ms ls ≡ crossings_of t ms (λ k. times k ls)
crosses_sum t ms {ls = ls} d = crosses_along t ms ls ∙ along_sum t (leads t ms) d

pub home_even : HomeEven
unfolding HomeEven leads_out
home_even t ms v ls d = omega (arith, drive_cut t (marked ms) d, crosses_along t ms ls)

ways_out_list : (ms : List Bool) (ss : List Street) → ways_out ms ss ≡ sum (length ss) (λ k. bit (leads_out ms (get_or ss k no_street)))
unfolding ways_out sum
ways_out_list ms [] = refl
ways_out_list ms (s ∷ ss) =
    ap (λ x. bit (leads_out ms s) + x) (ways_out_list ms ss) ∙ sym (sum_front (length ss) (λ k. bit (leads_out ms (get_or (s ∷ ss) k no_street))))

-- how many streets lead out, as a sum
pub ways_out_sum : (t : Town) (ms : List Bool) → ways_out ms t.streets ≡ sum (size t) (leads t ms)
unfolding street
ways_out_sum t ms = ways_out_list ms t.streets

-- the test whether an odd number lead out
pub ways_odd : (t : Town) (ms : List Bool) → par (size t) (λ k. leads_out ms (street t k)) ≡ eqb (ways_out ms t.streets % 2) 1
ways_odd t ms =
    par_ext (size t) (λ k. leads_out ms (street t k)) (λ k. odd (leads t ms k)) (λ k _. sym (odd_bit (leads_out ms (street t k))))
    ∙ sym (odd_sum (size t) (leads t ms)) ∙ ap odd (sym (ways_out_sum t ms)) ∙ test (odd (ways_out ms t.streets)) ∙ ap (λ n. eqb n 1) (sym (odd_mod (ways_out ms t.streets)))
  where
    test : (b : Bool) → b ≡ eqb (bit b) 1
    test true = refl
    test false = refl

-- what the parts weigh, and what a street bears of them, as sums
pub weights_sum : (ps : List Part) → weights ps ≡ sum (length ps) (λ i. (get_or ps i no_part).weight)
unfolding weights sum
weights_sum [] = refl
weights_sum (p ∷ ps) = ap (λ m. p.weight + m) (weights_sum ps) ∙ sym (sum_front (length ps) (λ i. (get_or (p ∷ ps) i no_part).weight))

pub load_sum : (ps : List Part) (s : Street) → load ps s ≡ sum (length ps) (λ i. when (leads_out (get_or ps i no_part).marks s) (get_or ps i no_part).weight)
unfolding load sum
load_sum [] s = refl
load_sum (p ∷ ps) s =
    ap (λ m. when (leads_out p.marks s) p.weight + m) (load_sum ps s)
    ∙ sym (sum_front (length ps) (λ i. when (leads_out (get_or (p ∷ ps) i no_part).marks s) (get_or (p ∷ ps) i no_part).weight))
