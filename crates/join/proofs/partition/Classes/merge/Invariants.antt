-- What the loop of `merge` keeps.
use Rattle.std.proofs.Common.{ℕ}
use Rattle.join.specs.Weights.{town_of, lengths_of}
use Rattle.join.specs.Classes.{Classed, Kept, Merged}
use Rattle.join.specs.Progress.{Progress}
use Rattle.join.proofs.partition.Classes.merge.Given as goal

abbrev pub invariant-loop-k : goal.invariant-loop-k
invariant-loop-k l =
    Classed (town_of l.streets) (lengths_of l.streets) l.self × Kept l.initial.self l.self × Merged (town_of l.streets) (lengths_of l.streets) l.self l.k
    × ((g : ℕ → ℕ) (n : ℕ) → Progress (town_of l.streets) (lengths_of l.streets) g l.initial.self n → Progress (town_of l.streets) (lengths_of l.streets) g l.self n)
