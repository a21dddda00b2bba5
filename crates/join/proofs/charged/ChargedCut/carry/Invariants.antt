-- What the loop of `carry` keeps.
use Rattle.std.proofs.Common.{◌≡◌, length}
use Rattle.road.specs.Model.{marked}
use Rattle.join.specs.Joins.{outs}
use Rattle.join.specs.Amounts.{amount}
use Rattle.join.specs.Problems.{town_in, start_in, reached_in}
use Rattle.join.specs.Turns.{lengths_at, potential_at}
use Rattle.join.specs.Outcomes.{Over}
use Rattle.join.proofs.charged.ChargedCut.carry.Given as goal

abbrev pub invariant-loop-circuit : goal.invariant-loop-circuit
invariant-loop-circuit l =
    (length l.found.drives ≡ 300)
    × Over (town_in l.self.prices.now.problem) (start_in l.self.prices.now.problem) (reached_in l.self.prices.now.problem) (lengths_at l.self.level.now) (potential_at l.self.level.now) (marked l.self.stage.now.marks) (amount l.self.stage.now.charge)
    l.found.crossing (marked l.found.drives)

abbrev pub decreases-loop-circuit : goal.decreases-loop-circuit
decreases-loop-circuit l = outs (town_in l.self.prices.now.problem) (marked l.self.stage.now.marks) (marked l.found.drives)
