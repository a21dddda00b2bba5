-- What the loop of `merge_along` keeps.
use Rattle.std.proofs.Common.{◌≡◌, ℕ, ◌<◌}
use Rattle.road.specs.Counts.{one, two}
use Rattle.join.specs.Borders.{street_at}
use Rattle.join.specs.Weights.{town_of, lengths_of}
use Rattle.join.specs.Classes.{label_in, Classed, Kept}
use Rattle.join.specs.Progress.{Progress}
use Rattle.join.proofs.partition.Classes.merge_along.Given as goal

abbrev pub invariant-loop-leg : goal.invariant-loop-leg
invariant-loop-leg l =
    Classed (town_of l.streets) (lengths_of l.streets) l.self × Kept l.initial.self l.self
    × ((i : ℕ) → i < l.leg-index → lengths_of l.streets (street_at l.legs i) ≡ 0 → label_in l.self (one (town_of l.streets) (street_at l.legs i)) ≡ label_in l.self (two (town_of l.streets) (street_at l.legs i)))
    × ((g : ℕ → ℕ) (n : ℕ) → Progress (town_of l.streets) (lengths_of l.streets) g l.initial.self n → Progress (town_of l.streets) (lengths_of l.streets) g l.self n)
