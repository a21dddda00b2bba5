-- Laws of the least length of drives. Each statement is a type that src/laws.rt asks a proof of. Assumes nothing.
use Rattle.std.specs.Prelude.{◌≡◌, ℕ, ◌+◌, ◌<◌, ◌≤◌}
use Rattle.road.specs.Roads.{Town, street}
use Rattle.road.specs.Counts.{size, one, two}
use Rattle.ways.specs.Least.{Least}

-- there is just one
abbrev pub LeastUnique : Type 0
LeastUnique = (t : Town) (v w d e : ℕ) → Least t v w d → Least t v w e → d ≡ e

-- from a crossing to itself it is 0
abbrev pub LeastSelf : Type 0
LeastSelf = (t : Town) (v : ℕ) → Least t v v 0

-- it is the same both ways
abbrev pub LeastTurned : Type 0
LeastTurned = (t : Town) (v w d : ℕ) → Least t v w d → Least t w v d

-- through a third crossing it is no less
abbrev pub LeastThrough : Type 0
LeastThrough = (t : Town) (u v w a b c : ℕ) → Least t u v a → Least t v w b → Least t u w c → c ≤ a + b

-- between the ends of a street it is at most the street's length
abbrev pub LeastStreet : Type 0
LeastStreet = (t : Town) (k d : ℕ) → k < size t → Least t (one t k) (two t k) d → d ≤ (street t k).long
