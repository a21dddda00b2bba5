-- The limits of a street. Assumes nothing: these are definitions.
use Rattle.std.specs.Prelude.{ℕ, ◌<◌, ◌≤◌, Bool, ◌&&◌, nat_le, nat_lt}
use Rattle.road.specs.Roads.{Street}

-- the ends of a street are crossings, and it has at most 100,000 metres
abbrev pub Within : ℕ → Street → Type 0
Within crossings s = (s.one < crossings) × (s.two < crossings) × (s.long ≤ 100000)

-- the same as a test
abbrev pub within : ℕ → Street → Bool
within crossings s = nat_lt s.one crossings && (nat_lt s.two crossings && nat_le s.long 100000)
