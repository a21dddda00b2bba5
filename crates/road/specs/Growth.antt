-- Marks of crossings that grow until nothing changes: how what can be come to is found. Assumes nothing: these are definitions.
use Rattle.std.specs.Prelude.{◌≡◌, ℕ, ◌<◌, Bool, true, false, not, List, length}
use Rattle.road.specs.Roads.{Town}
use Rattle.road.specs.Counts.{bit, sum, cut}
use Rattle.road.specs.Reach.{reached}
use Rattle.road.specs.Model.{marked}

-- the start is marked, and only what can be come to
pub record Grown (t : Town) (s : ℕ) (ms : List Bool) : Type 0 where
  pub places : length ms ≡ 100
  pub start : marked ms s ≡ true
  pub come : (v : ℕ) → marked ms v ≡ true → reached t s v ≡ true

-- how many crossings are not marked
abbrev pub unmarked : List Bool → ℕ
unmarked ms = sum 100 (λ v. bit (not (marked ms v)))

-- no street below n leads out of the marks
abbrev pub Closed : Town → List Bool → ℕ → Type 0
Closed t ms n = (k : ℕ) → k < n → cut t (marked ms) k ≡ false

-- an attempt has marked some more, or it has changed nothing and C holds
pub record Tried (ms ms' : List Bool) (more : Bool) (C : Type 0) : Type 0 where
  pub less : more ≡ true → unmarked ms' < unmarked ms
  pub same : more ≡ false → (ms' ≡ ms) × C
