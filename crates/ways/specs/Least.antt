-- Least drives between crossings. Assumes nothing: these are definitions.
use Rattle.std.specs.Prelude.{◌≡◌, ℕ, ◌≤◌, List}
use Rattle.road.specs.declared.Leg.{Leg}
use Rattle.road.specs.Roads.{Town, Drive, far}

-- some drive from v to w has length d, and none is shorter
pub record Least (t : Town) (v w d : ℕ) : Type 0 where
  pub some : (ls : List Leg) × Drive t v ls w × (far t ls ≡ d)
  pub least : (ls : List Leg) → Drive t v ls w → d ≤ far t ls

-- there is no drive from v to w
abbrev pub Apart : Town → ℕ → ℕ → Type 0
Apart t v w = (ls : List Leg) → Drive t v ls w → ⊥
