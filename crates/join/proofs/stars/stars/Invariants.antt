-- What the loop of `stars` keeps.
use Rattle.std.proofs.Common.{vec_items}
use Rattle.road.specs.Model.{model}
use Rattle.join.specs.Borders.{StarsBelow}
use Rattle.join.proofs.stars.stars.Given as goal

abbrev pub invariant-loop-k : goal.invariant-loop-k
invariant-loop-k l = StarsBelow (model l.town) l.k (vec_items l.stars) l.town.crossings
