-- That no pairing is shorter than the least extra drives. Assumes nothing: these are definitions.
use Rattle.std.specs.Prelude.{◌≤◌, List}
use Rattle.join.specs.declared.least.LeastDrives.{LeastDrives}
use Rattle.join.specs.Extra.{extra_length}
use Rattle.join.specs.Laws.{town_of}
use Rattle.pairs.specs.Walks.{Walk}
use Rattle.pairs.specs.Pairings.{depot_extra, far_of, Pairing, NoShorter, Paired}

-- no pairing of the odd crossings is shorter altogether than the extra drives to the depot; so none is shorter than the pairs that are read off them
abbrev pub PairingLeast : Type 0
PairingLeast =
    (s : LeastDrives) →
    ((qs : List Walk) → Pairing (town_of s) qs → extra_length (town_of s) (depot_extra s) ≤ far_of (town_of s) qs)
    × ((ps : List Walk) → Paired (town_of s) (depot_extra s) ps → NoShorter (town_of s) ps)
