-- The steps of the proof of `street` that are not found by search.
use Rattle.std.proofs.Common.{rules}
use Rattle.road.specs.Roads.{street}
use Rattle.road.proofs.town.Town.street.Goals as goal

pub returns-clause-is : goal.returns-clause-is
unfolding street
returns-clause-is c = search (rules, c.streets.ensures)
