-- What can be come to, as a test. Assumes nothing: these are definitions.
use Rattle.std.specs.Prelude.{ℕ, zero, suc, Bool, ◌&&◌, ◌||◌, ◌==◌}
use Rattle.road.specs.Roads.{Town}
use Rattle.road.specs.Counts.{size, one, two}

-- whether v can be come to from s over the first n streets: over one street more there is a way to v
-- just if there was one before, or the street has an end that can be come to and a way from an end to v
unfoldable pub joined : Town → ℕ → ℕ → ℕ → Bool
joined t zero s v = v == s
joined t (suc n) s v =
    joined t n s v
    || ((joined t n s (one t n) || joined t n s (two t n)) && (joined t n (one t n) v || joined t n (two t n) v))

-- whether v can be come to from s
abbrev pub reached : Town → ℕ → ℕ → Bool
reached t s v = joined t (size t) s v
