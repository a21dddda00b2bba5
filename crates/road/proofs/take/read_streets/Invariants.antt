-- What the loop of `read_streets` keeps.
use Rattle.std.proofs.Common.{◌≡◌, ℕ, ◌<◌, length, get_or}
use Rattle.road.specs.Roads.{street, no_street}
use Rattle.road.specs.Numbers.{town_in}
use Rattle.road.proofs.take.read_streets.Given as goal

abbrev pub invariant-loop-k : goal.invariant-loop-k
invariant-loop-k l = (length l.streets ≡ 300) × ((j : ℕ) → j < l.k → get_or l.streets j no_street ≡ street (town_in 0 l.numbers) j)
