-- The steps of the proof of `search` that are not found by search.
use Rattle.std.proofs.Common.{false, refl, replicate}
use Rattle.road.specs.Model.{model, marked}
use Rattle.join.proofs.Growing.{grown_start}
use Rattle.join.proofs.component.Component.search.Goals as goal

pub loop-init : goal.loop-init
loop-init c = (
  grown_start (model c.args.graph.now.town.now) (marked c.args.graph.now.set.now) c.args.self.now _ (replicate 300 false) c.args.from c.requires refl refl c.only-self.ensures refl,
  refl,
)
