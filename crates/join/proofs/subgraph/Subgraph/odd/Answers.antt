-- The steps of the proof of `odd` that are not found by search.
use Rattle.std.proofs.Common.{ap, ◌∙◌, arith, rules}
use Rattle.road.specs.Model.{model, marked}
use Rattle.road.proofs.Models.{size_model}
use Rattle.join.specs.Joins.{out}
use Rattle.join.proofs.Trees.{ends_below_odd, no_ends, ends_more}
use Rattle.join.proofs.subgraph.Subgraph.odd.Goals as goal

pub loop-k-init : goal.loop-k-init
loop-k-init c = (search rules, no_ends (model c.args.self.now.town.now) (marked c.args.self.now.set.now))

pub loop-k-preserved : goal.loop-k-preserved
loop-k-preserved c =
    let s = c.args.self.now in
    (search rules, ends_more (model s.town.now) (marked s.set.now) (marked c.loop-k.odd) _ c.loop-k.k c.loop-k.invariant.1 c.turn_ends.ensures)

pub returns : goal.returns
unfolding out
returns c = λ v.
    let t = c.args.self.now.town.now in
    c.loop-k.invariant.1 v ∙ ap (ends_below_odd (model t) (marked c.args.self.now.set.now) v) (omega (arith, size_model t, c.loop-k.auto.k-end, c.loop-k-test.false))
