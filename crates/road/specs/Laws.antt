-- What refusals and faults mean. Each statement is a type that src/laws.rt asks a proof of. Assumes nothing.
use Rattle.std.specs.Prelude.{◌≡◌, ℕ, ◌*◌, ◌<◌, ◌≤◌, true, ◌↔◌, List, length, take, Some, None, ◌≢◌, slice_index, slice_index_or}
use Rattle.road.specs.declared.fault.Fault.TheVariants.{Leg as AtLeg, Home, Street as LeftOut}
use Rattle.road.specs.declared.sound.SoundTown.{SoundTown}
use Rattle.road.specs.Roads.{Town, Leg, street, from, Drive, times, Round, Sound}
use Rattle.road.specs.Counts.{size, one, Set, all}
use Rattle.road.specs.Limits.{Within}
use Rattle.road.specs.Numbers.{town_in, leg_in}
use Rattle.road.specs.Refusals.{town_refusal, reach_refusal, plan_refusal, legs_refusal}
use Rattle.road.specs.Faults.{fault}
use Rattle.road.specs.Model.{model}

-- the rules of a town in numbers
abbrev pub CrossingsRule : ℕ → Type 0
CrossingsRule n = (1 ≤ n) × (n ≤ 100)

abbrev pub NumbersRule : List ℕ → Type 0
NumbersRule xs = (m : ℕ) × (length xs ≡ 3 * m) × (m ≤ 300)

abbrev pub StreetRule : ℕ → List ℕ → ℕ → Type 0
StreetRule n xs k = Within n (street (town_in n xs) k)

abbrev pub StreetsRule : ℕ → List ℕ → Type 0
StreetsRule n xs = (k : ℕ) → k < size (town_in n xs) → StreetRule n xs k

-- all of them
abbrev pub Limits : ℕ → List ℕ → ℕ → Type 0
Limits n xs depot = CrossingsRule n × NumbersRule xs × StreetsRule n xs × (depot < n)

-- some drive leads from one crossing to another
abbrev pub Way : Town → ℕ → ℕ → Type 0
Way t v w = (ls : List Leg) × Drive t v ls w

-- each number of the list is given just if its rule is broken and no earlier one
abbrev pub CrossingsRefused : Type 0
CrossingsRefused = (n : ℕ) (xs : List ℕ) (depot p : ℕ) → (town_refusal n xs depot ≡ Some (1, p)) ↔ ((CrossingsRule n → ⊥) × (p ≡ n))

abbrev pub NumbersRefused : Type 0
NumbersRefused = (n : ℕ) (xs : List ℕ) (depot p : ℕ) → (town_refusal n xs depot ≡ Some (2, p)) ↔ (CrossingsRule n × (NumbersRule xs → ⊥) × (p ≡ length xs))

abbrev pub StreetRefused : Type 0
StreetRefused =
    (n : ℕ) (xs : List ℕ) (depot k : ℕ) → (town_refusal n xs depot ≡ Some (3, k))
    ↔ (CrossingsRule n × NumbersRule xs × (k < size (town_in n xs)) × (StreetRule n xs k → ⊥) × ((j : ℕ) → j < k → StreetRule n xs j))

abbrev pub DepotRefused : Type 0
DepotRefused =
    (n : ℕ) (xs : List ℕ) (depot p : ℕ) → (town_refusal n xs depot ≡ Some (4, p))
    ↔ (CrossingsRule n × NumbersRule xs × StreetsRule n xs × (depot < n → ⊥) × (p ≡ depot))

abbrev pub UnreachedRefused : Type 0
UnreachedRefused =
    (t : Town) (depot k : ℕ) → (reach_refusal t depot ≡ Some (5, k))
    ↔ ((k < size t) × (Way t depot (one t k) → ⊥) × ((j : ℕ) → j < k → Way t depot (one t j)))

-- a town is taken just if it is within the limits, and let through to the planner just if it is sound too
abbrev pub Taken : Type 0
Taken = (n : ℕ) (xs : List ℕ) (depot : ℕ) → (town_refusal n xs depot ≡ None) ↔ Limits n xs depot

abbrev pub LetThrough : Type 0
LetThrough = (n : ℕ) (xs : List ℕ) (depot : ℕ) → (plan_refusal n xs depot ≡ None) ↔ (Limits n xs depot × Sound (town_in n xs) depot)

-- what the type of sound towns says
abbrev pub SoundTowns : Type 0
SoundTowns = (s : SoundTown) → Sound (model s.town) s.town.depot

-- a leg is refused just if it is of no street, and those before it are of one
abbrev pub LegRefused : Type 0
LegRefused =
    (t : Town) (xs : List ℕ) (i : ℕ) → (legs_refusal t xs ≡ Some (7, i))
    ↔ ((i < length xs) × (size t ≤ (leg_in (slice_index xs i)).by) × ((j : ℕ) → j < i → (leg_in (slice_index xs j)).by < size t))

-- a leg begins at a crossing
abbrev pub Begins : Town → ℕ → Leg → Type 0
Begins t v l = (l.by < size t) × (from t l ≡ v)

abbrev pub no_leg : Leg
no_leg = leg_in 0

-- the fault is at leg i just if the legs before it are a drive to some crossing at which leg i does not begin
abbrev pub FaultLeg : Type 0
FaultLeg =
    (t : Town) (v w : ℕ) (must : Set) (ls : List Leg) (i : ℕ) → (fault t v w must ls ≡ Some (AtLeg i))
    ↔ ((i < length ls) × ((u : ℕ) × Drive t v (take i ls) u × (Begins t u (slice_index_or ls i no_leg) → ⊥)))

-- it is home just if the legs are a drive that ends elsewhere
abbrev pub FaultHome : Type 0
FaultHome = (t : Town) (v w : ℕ) (must : Set) (ls : List Leg) → (fault t v w must ls ≡ Some Home) ↔ ((u : ℕ) × Drive t v ls u × (u ≢ w))

-- it is at street k just if the legs are a drive that leaves it out, and no earlier one, of those that have to be driven
abbrev pub FaultStreet : Type 0
FaultStreet =
    (t : Town) (v w : ℕ) (must : Set) (ls : List Leg) (k : ℕ) → (fault t v w must ls ≡ Some (LeftOut k))
    ↔ (Drive t v ls w × (k < size t) × (must k ≡ true) × (times k ls ≡ 0) × ((j : ℕ) → j < k → must j ≡ true → 1 ≤ times j ls))

-- there is none just if the legs are a drive over all of them
abbrev pub FaultNone : Type 0
FaultNone =
    (t : Town) (v w : ℕ) (must : Set) (ls : List Leg) → (fault t v w must ls ≡ None)
    ↔ (Drive t v ls w × ((k : ℕ) → k < size t → must k ≡ true → 1 ≤ times k ls))

-- and from the depot over all streets and home, just if they are a round
abbrev pub FaultRound : Type 0
FaultRound = (t : Town) (depot : ℕ) (ls : List Leg) → (fault t depot depot all ls ≡ None) ↔ Round t depot ls
