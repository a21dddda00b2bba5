-- The step of the proof of `set_for` that is not found by search.
use Rattle.std.proofs.Common.{ap, ◌∙◌}
use Rattle.road.specs.Counts.{Set}
use Rattle.road.specs.Model.{marked}
use Rattle.join.specs.Joins.{◌⊞◌}
use Rattle.join.proofs.Trees.{along_tree}
use Rattle.join.proofs.first_prices.Start.set_for.Goals as goal

pub returns : goal.returns
returns c = λ reached.
    let s = c.args.self.now in
    along_tree s.problem.now s.tree.now s.rooted c.args.u (marked s.home.now) (marked c.xor.result) reached s.joins
    (c.xor.ensures ∙ ap (λ (J : Set). marked s.home.now ⊞ J) c.path_to.ensures)
