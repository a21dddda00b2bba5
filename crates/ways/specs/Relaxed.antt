-- Ways that get shorter until none does: how shortest ones are found. Assumes nothing: these are definitions.
use Rattle.std.specs.Prelude.{◌≡◌, ℕ, ◌+◌, ◌*◌, ◌<◌, ◌≤◌, Bool, true, false, length, is_some, Some, None, vec_items, Option, nat_lt}
use Rattle.road.specs.declared.Leg.{Leg}
use Rattle.road.specs.Roads.{Town, street, from, into}
use Rattle.road.specs.Counts.{bit, sum}
use Rattle.ways.specs.declared.way.Way.{Way}
use Rattle.ways.specs.declared.ways.Ways.{Ways}
use Rattle.ways.specs.Shown.{to, Drives}

-- whether a length is less than that of a way, or there is none
abbrev pub shorter : ℕ → Option Way → Bool
shorter n None = true
shorter n (Some w) = nat_lt n w.length

-- there is a way, of length n at most
abbrev pub AtMost : Option Way → ℕ → Type 0
AtMost None n = ⊥
AtMost (Some w) n = w.length ≤ n

-- how many crossings are come to
abbrev pub come : Ways → ℕ
come ws = sum 100 (λ v. bit (is_some (to ws v)))

-- the ways so far
pub record Come (t : Town) (ws : Ways) : Type 0 where
  pub places : length (vec_items ws.ways) ≡ t.crossings
  pub most : t.crossings ≤ 100
  pub home : AtMost (to ws ws.start) 0
  pub ways : (v : ℕ) (w : Way) → to ws v ≡ Some w → Drives t ws.start v w
  pub low : (v : ℕ) (w : Way) → to ws v ≡ Some w → w.length ≤ 100000 * come ws

-- all lengths together, where no way counts more than any
abbrev pub weight : Option Way → ℕ
weight None = 100000000
weight (Some w) = w.length

abbrev pub weights : Ways → ℕ
weights ws = sum 100 (λ v. weight (to ws v))

-- the way to the end of a leg is no longer than that to its begin and the leg
abbrev pub Near : Town → Ways → Leg → Type 0
Near t ws l = (w : Way) → to ws (from t l) ≡ Some w → AtMost (to ws (into t l)) (w.length + (street t l.by).long)

-- so for the legs over the first n streets
abbrev pub Closed : Town → Ways → ℕ → Type 0
Closed t ws n = (k : ℕ) (b : Bool) → k < n → Near t ws (record { by = k; back = b })

-- an attempt has made a way shorter, or it has changed nothing and N holds
pub record Tried (ws ws' : Ways) (more : Bool) (N : Type 0) : Type 0 where
  pub start : ws'.start ≡ ws.start
  pub less : more ≡ true → weights ws' < weights ws
  pub same : more ≡ false → (ws' ≡ ws) × N
