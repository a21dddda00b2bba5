-- What is promised of drives and rounds. Each statement is a type that src/laws.rt asks a proof of. Assumes nothing: these are definitions.
use Rattle.std.specs.Prelude.{◌≡◌, ℕ, ◌+◌, ◌*◌, ◌%◌, ◌<◌, ◌≤◌, ◌↔◌, List, [], ◌∷◌, ◌++◌, length, ◌==◌}
use Rattle.road.specs.declared.street.Street.{Street}
use Rattle.road.specs.declared.leg.Leg.{Leg}
use Rattle.road.specs.Roads.{Town, street, Drive, Round, Shortest, Sound, times, far, all_streets}
use Rattle.road.specs.Counts.{bit, size, one, degree}
use Rattle.sheet.specs.Sheet.{Part, Sheet, weights}

-- from v a drive over streets that have a count comes to each of them
abbrev pub Connected : Town → (ℕ → ℕ) → ℕ → Type 0
Connected t c v =
    (k : ℕ) → k < size t → 0 < c k → (ls : List Leg) × Drive t v ls (one t k) × ((j : ℕ) → j < size t → 0 < times j ls → 0 < c j)

-- every crossing has an even degree, once v and w are counted as ends of one street more
abbrev pub EvenBut : Town → (ℕ → ℕ) → ℕ → ℕ → Type 0
EvenBut t c v w = (x : ℕ) → (degree t c x + bit (v == x) + bit (w == x)) % 2 ≡ 0

-- a drive from v to w with these counts
abbrev pub DriveWith : Town → (ℕ → ℕ) → ℕ → ℕ → Type 0
DriveWith t c v w = (ls : List Leg) × Drive t v ls w × ((k : ℕ) → k < size t → times k ls ≡ c k)

-- Euler's theorem: counts, of which some may be 0, are those of a drive from v to w just if they connect with v and are even but for v and w
abbrev pub Euler : Type 0
Euler = (t : Town) (v w : ℕ) (c : ℕ → ℕ) → (Connected t c v × EvenBut t c v w) ↔ DriveWith t c v w

-- a round with these counts
abbrev pub RoundWith : Town → (ℕ → ℕ) → ℕ → Type 0
RoundWith t c depot = (ls : List Leg) × Round t depot ls × ((k : ℕ) → k < size t → times k ls ≡ c k)

-- in a sound town, counts of at least 1 that make all degrees even are those of a round
abbrev pub EulerRound : Type 0
EulerRound =
    (t : Town) (depot : ℕ) (c : ℕ → ℕ) → Sound t depot → ((k : ℕ) → k < size t → 1 ≤ c k) → ((v : ℕ) → v < t.crossings → degree t c v % 2 ≡ 0) →
    RoundWith t c depot

-- every sound town has a shortest round, and a sheet that shows it: the parts weigh twice what the round drives beside each street once
abbrev pub Planned : Type 0
Planned =
    (t : Town) (depot : ℕ) → Sound t depot →
    (ls : List Leg) × (ps : List Part) × Shortest t depot ls × Sheet t ps
    × (2 * far t ls ≡ 2 * all_streets t.streets + weights ps) × (length ps ≤ 4 * t.crossings)

-- no street that has a length is driven three times in a shortest round
abbrev pub AtMostTwice : Type 0
AtMostTwice = (t : Town) (depot k : ℕ) (ls : List Leg) → Sound t depot → Shortest t depot ls → k < size t → 0 < (street t k).long → times k ls ≤ 2

-- shortest rounds from any two depots are equally long
abbrev pub AnyDepot : Type 0
AnyDepot =
    (t : Town) (depot other : ℕ) (ls ms : List Leg) → Sound t depot → Sound t other → Shortest t depot ls → Shortest t other ms → far t ls ≡ far t ms

-- the town with one street more
abbrev pub with_street : Town → Street → Town
with_street t s = record { crossings = t.crossings; streets = t.streets ++ s ∷ [] }

-- a new street makes the shortest round longer by at most twice its length
abbrev pub NewStreet : Type 0
NewStreet =
    (t : Town) (depot : ℕ) (s : Street) (ls ms : List Leg) → Sound t depot → Shortest t depot ls →
    Sound (with_street t s) depot → Shortest (with_street t s) depot ms → far (with_street t s) ms ≤ far t ls + 2 * s.long
