-- Rooms that are written to. Assumes nothing: these are definitions.
use Rattle.std.specs.Prelude.{ℕ, List, ◌++◌, length, take, drop}
use Rattle.sheet.specs.Sheet.{Part}
use Rattle.join.specs.declared.turn.Stage.{Stage}
use Rattle.join.specs.Amounts.{amount}

-- a class as a part of n crossings, with its charge as weight
abbrev pub part_of : ℕ → Stage → Part
part_of n s = record { marks = take n s.marks; weight = amount s.charge }

-- a room once numbers are written over its front
abbrev pub over : List ℕ → List ℕ → List ℕ
over ys xs = ys ++ drop (length ys) xs
