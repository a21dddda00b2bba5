-- The town that a value of the code stands for. Assumes nothing: these are definitions.
use Rattle.std.specs.Prelude.{Bool, false, List, take, slice_index_or}
use Rattle.road.specs.declared.town.Town.{Town}
use Rattle.road.specs.Roads as roads
use Rattle.road.specs.Counts.{Set}

abbrev pub model : Town → roads.Town
model t = record { crossings = t.crossings; streets = take t.count t.streets }

-- a set by its marks
abbrev pub marked : List Bool → Set
marked ms k = slice_index_or ms k false
