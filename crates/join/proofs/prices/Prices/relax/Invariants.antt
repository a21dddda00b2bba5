-- What the loop of `relax` keeps.
use Rattle.std.proofs.Common.{◌≡◌, ◌≤◌}
use Rattle.join.specs.Prices.{all_prices}
use Rattle.join.proofs.prices.Prices.relax.Given as goal

abbrev pub invariant-loop-self : goal.invariant-loop-self
invariant-loop-self l = (l.self.problem ≡ l.initial.self.problem) × (all_prices l.self ≤ all_prices l.initial.self)

abbrev pub decreases-loop-self : goal.decreases-loop-self
decreases-loop-self l = all_prices l.self
