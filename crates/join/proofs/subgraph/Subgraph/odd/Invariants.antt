-- What the loop of `odd` keeps.
use Rattle.std.proofs.Common.{◌≡◌, ℕ, ◌&&◌, length}
use Rattle.road.specs.Counts.{par, cut}
use Rattle.road.specs.Model.{model, marked}
use Rattle.join.specs.Joins.{single}
use Rattle.join.proofs.subgraph.Subgraph.odd.Given as goal

abbrev pub invariant-loop-k : goal.invariant-loop-k
invariant-loop-k l = (length l.odd ≡ 100) × ((v : ℕ) → marked l.odd v ≡ par l.k (λ k. marked l.self.set.now k && cut (model l.self.town.now) (single v) k))
