-- What the loop of `circuit` keeps.
use Rattle.road.specs.Model.{marked}
use Rattle.join.specs.Weights.{ground, side_of}
use Rattle.join.specs.Circuits.{AllLone}
use Rattle.join.proofs.cut.Cut.circuit.Given as goal

abbrev pub invariant-loop-k : goal.invariant-loop-k
invariant-loop-k l = AllLone (ground l.self) (side_of l.self) (marked l.drives) (marked l.base) l.k
