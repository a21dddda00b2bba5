-- What the loop of `walk` keeps.
use Rattle.std.proofs.Common.{◌<◌}
use Rattle.std.specs.Bool.{⊤}
use Rattle.road.specs.Roads.{from}
use Rattle.join.specs.Problems.{town_in}
use Rattle.join.specs.Prices.{Led, Lowered}
use Rattle.join.proofs.prices.Prices.walk.Given as goal

abbrev pub invariant-loop : goal.invariant-loop
invariant-loop l =
    (l.leg.by < l.problem.streets.town.now.count)
    × Led l.problem (from (town_in l.problem) l.leg) l.led
    × Lowered l.initial.self l.self l.lower ⊤
