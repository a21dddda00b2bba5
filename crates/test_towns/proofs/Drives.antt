-- A drive without its first leg. Assumes nothing.
use Rattle.std.proofs.Common.{◌≡◌, ℕ, ◌<◌, List, ◌∷◌}
use Rattle.std.specs.Prelude.{◌↔◌}
use Rattle.road.specs.declared.leg.Leg.{Leg}
use Rattle.road.specs.Roads.{Town, from, into, Drive, go}
use Rattle.road.specs.Counts.{size}

-- a drive begins where its first leg does
abbrev pub Begins : Town → ℕ → Leg → Type 0
Begins t v l = (l.by < size t) × (from t l ≡ v)

pub drive_rest : (t : Town) (v w : ℕ) (l : Leg) (ls : List Leg) → Drive t v (l ∷ ls) w → Begins t v l × Drive t (into t l) ls w
drive_rest t v w l ls (go _ _ _ _ h e d) = ((h, e), d)

pub drive_on : (t : Town) (v w : ℕ) (l : Leg) (ls : List Leg) → Begins t v l → Drive t v (l ∷ ls) w ↔ Drive t (into t l) ls w
drive_on t v w l ls b = (λ d. (drive_rest t v w l ls d).1, λ d. go v w l ls b.0 b.1 d)
