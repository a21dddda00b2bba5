-- The length of all streets and of a list of legs, as sums over lists, and how long they are at most. Assumes nothing.
use Rattle.std.proofs.Common.{◌≡◌, ℕ, ◌+◌, ◌*◌, ◌≤◌, List, [], ◌∷◌, length, sum_by, get_or, ap, sym, refl, ◌∙◌, ⊎_elim, arith}
use Rattle.std.proofs.lemmas.List.Elements.{All-from_get_or}
use Rattle.std.proofs.lemmas.List.Sums.{sum_by-cons, sum_by-le}
use Rattle.std.proofs.lemmas.Bool.{cases_lt}
use Rattle.road.specs.declared.town.Town.{Town}
use Rattle.road.specs.Roads.{Street, Leg, street, no_street, far, all_streets}
use Rattle.road.specs.Roads as roads
use Rattle.road.specs.Numbers.{leg_in, legs_in}
use Rattle.road.specs.Model.{model}
use Rattle.road.proofs.Models.{size_model, street_model, street_past}

pub all_streets_by : (ss : List Street) → all_streets ss ≡ sum_by (λ s. s.long) ss
unfolding all_streets
all_streets_by [] = refl
all_streets_by (s ∷ ss) = ap (λ n. s.long + n) (all_streets_by ss) ∙ sym (sum_by-cons (λ s. s.long) s ss)

pub far_by : (t : roads.Town) (xs : List ℕ) → far t (legs_in xs) ≡ sum_by (λ x. (street t (leg_in x).by).long) xs
unfolding far
far_by t [] = refl
far_by t (x ∷ xs) = ap (λ n. (street t (leg_in x).by).long + n) (far_by t xs) ∙ sym (sum_by-cons (λ x. (street t (leg_in x).by).long) x xs)

-- no street is longer than 100,000 metres
pub street_most : (t : Town) (k : ℕ) → (street (model t) k).long ≤ 100000
street_most t k =
    ⊎_elim (λ lt. rw (street_model t k lt) ((t.within k lt).2)) (λ ge. rw (street_past t k ge) (omega arith)) (cases_lt k t.count)

pub far_most : (t : Town) (xs : List ℕ) → sum_by (λ x. (street (model t) (leg_in x).by).long) xs ≤ 100000 * length xs
far_most t xs =
    let f = λ (x : ℕ). (street (model t) (leg_in x).by).long in
    omega (arith, sum_by-le f 100000 xs (All-from_get_or (λ x. f x ≤ 100000) xs 0 (λ i h. street_most t (leg_in (get_or xs i 0)).by)))

-- at most 300 streets of at most 100,000 metres
pub all_streets_most : (t : Town) → sum_by (λ s. s.long) (model t).streets ≤ 30000000
unfolding street
all_streets_most t =
    omega (arith, sum_by-le (λ s. s.long) 100000 (model t).streets (All-from_get_or (λ s. s.long ≤ 100000) (model t).streets no_street (λ k h. street_most t k)), size_model t, t.few)
