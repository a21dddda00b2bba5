-- What is turned away, by the number and the place of its refusal. Assumes nothing: these are definitions.
use Rattle.std.specs.Prelude.{ℕ, ◌*◌, ◌/◌, ◌%◌, ◌&&◌, nat_lt, List, length, Option, Result, ◌==◌, nat_le, slice_index}
use Rattle.road.specs.declared.refusal.Refusal.{Refusal}
use Rattle.road.specs.declared.refusal.Refusal.TheVariants.{Crossings, Numbers, OutOfRange, Depot, Unreached, Room, NoStreet, Parts}
use Rattle.road.specs.Roads.{Town, street}
use Rattle.road.specs.Counts.{size, one}
use Rattle.road.specs.Limits.{within}
use Rattle.road.specs.Reach.{reached}
use Rattle.road.specs.Numbers.{town_in}
use Rattle.road.specs.First.{unless, unless_all, ◌then◌, Says}

-- the number and the place of each refusal
abbrev pub listed : Refusal → ℕ × ℕ
listed (Crossings n) = (1, n)
listed (Numbers n) = (2, n)
listed (OutOfRange k) = (3, k)
listed (Depot d) = (4, d)
listed (Unreached k) = (5, k)
listed (Room n) = (6, n)
listed (NoStreet i) = (7, i)
listed (Parts n) = (8, n)

-- 1: no crossing, or more than 100, at their number
abbrev pub crossings_refusal : ℕ → Option (ℕ × ℕ)
crossings_refusal n = unless (nat_le 1 n && nat_le n 100) (1, n)

-- 2: numbers that are not three for each street, or more than 300 streets, at the length
abbrev pub numbers_refusal : List ℕ → Option (ℕ × ℕ)
numbers_refusal xs = unless (length xs % 3 == 0 && nat_le (length xs / 3) 300) (2, length xs)

-- 3: an end past the crossings, or a length above 100,000, at the first such street
abbrev pub streets_refusal : Town → Option (ℕ × ℕ)
streets_refusal t = unless_all (size t) (λ k. within t.crossings (street t k)) (λ k. (3, k))

-- 4: a depot past the crossings, at the depot
abbrev pub depot_refusal : ℕ → ℕ → Option (ℕ × ℕ)
depot_refusal n depot = unless (nat_lt depot n) (4, depot)

-- 1 to 4
abbrev pub town_refusal : ℕ → List ℕ → ℕ → Option (ℕ × ℕ)
town_refusal n xs depot = crossings_refusal n then (numbers_refusal xs then (streets_refusal (town_in n xs) then depot_refusal n depot))

-- 5: a street that can't be come to from the depot, the first
abbrev pub reach_refusal : Town → ℕ → Option (ℕ × ℕ)
reach_refusal t depot = unless_all (size t) (λ k. reached t depot (one t k)) (λ k. (5, k))

-- 1 to 5
abbrev pub plan_refusal : ℕ → List ℕ → ℕ → Option (ℕ × ℕ)
plan_refusal n xs depot = town_refusal n xs depot then reach_refusal (town_in n xs) depot

-- 7: a leg of no street, the first
abbrev pub legs_refusal : Town → List ℕ → Option (ℕ × ℕ)
legs_refusal t xs = unless_all (length xs) (λ i. nat_lt (slice_index xs i) (2 * size t)) (λ i. (7, i))

-- an answer, or the refusal that is due
abbrev pub Answers : {A : Type 0} → Option (ℕ × ℕ) → (A → Type 0) → Result A Refusal → Type 0
Answers due P r = Says listed due P r
