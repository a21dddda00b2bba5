-- What the loop of `descend` keeps.
use Rattle.road.specs.Model.{marked}
use Rattle.join.specs.Problems.{town_in, start_in, reached_in}
use Rattle.join.specs.Potentials.{Cheaper}
use Rattle.join.specs.Turns.{lengths_at, potential_at}
use Rattle.join.specs.Passes.{After}
use Rattle.join.proofs.packing.CutPacking.descend.Given as goal

abbrev pub invariant-loop-i : goal.invariant-loop-i
invariant-loop-i l =
    After l.self.prices.now l.self.stages.now l.i l.level
    × Cheaper (town_in l.self.prices.now.problem) (start_in l.self.prices.now.problem) (reached_in l.self.prices.now.problem) (lengths_at l.level) (potential_at l.level) l.found.crossing (marked l.found.drives)
