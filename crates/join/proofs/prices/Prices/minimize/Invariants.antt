-- What the loop of `minimize` keeps.
use Rattle.std.proofs.Common.{◌≡◌}
use Rattle.join.specs.Prices.{all_prices}
use Rattle.join.proofs.prices.Prices.minimize.Given as goal

abbrev pub invariant-loop-stages : goal.invariant-loop-stages
invariant-loop-stages l = l.self.problem ≡ l.initial.self.problem

abbrev pub decreases-loop-stages : goal.decreases-loop-stages
decreases-loop-stages l = all_prices l.self
