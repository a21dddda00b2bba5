-- The steps of the proof of `ends_of` that are not found by search.
use Rattle.std.proofs.Common.{true, false}
use Rattle.road.specs.Model.{model}
use Rattle.road.proofs.Legs.{from_is, into_is}
use Rattle.road.proofs.town.Town.ends_of.Goals as goal

pub returns-then-leg-clause-begin : goal.returns-then-leg-clause-begin
returns-then-leg-clause-begin c = from_is (model c.args.self.now) c.args.leg true c.street-one.result c.if-leg.true c.street-one.ensures.is

pub returns-then-leg-clause-end : goal.returns-then-leg-clause-end
returns-then-leg-clause-end c = into_is (model c.args.self.now) c.args.leg true c.street-one.result c.if-leg.true c.street-one.ensures.is

pub returns-else-leg-clause-begin : goal.returns-else-leg-clause-begin
returns-else-leg-clause-begin c = from_is (model c.args.self.now) c.args.leg false c.street-one.result c.if-leg.false c.street-one.ensures.is

pub returns-else-leg-clause-end : goal.returns-else-leg-clause-end
returns-else-leg-clause-end c = into_is (model c.args.self.now) c.args.leg false c.street-one.result c.if-leg.false c.street-one.ensures.is
