-- What the loop of `new` keeps.
use Rattle.road.specs.Model.{model}
use Rattle.pairs.specs.Incidences.{Listed}
use Rattle.pairs.proofs.lists.StreetLists.new.Given as goal

abbrev pub invariant-loop-k : goal.invariant-loop-k
invariant-loop-k l = Listed (model l.town) l.k l.lists
