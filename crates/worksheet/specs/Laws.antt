-- What it means that a worksheet can be ticked: a statement, a type that src/laws.rt asks a proof of. Assumes nothing.
use Rattle.std.specs.Prelude.{◌≡◌, ℕ, ◌+◌, ◌*◌, ◌%◌, ◌<◌, ◌≤◌, List, length, sum, slice_index_or}
use Rattle.road.specs.declared.leg.Leg.{Leg}
use Rattle.road.specs.Roads.{Town, street, Round, Shortest}
use Rattle.road.specs.Counts.{size}
use Rattle.sheet.specs.Sheet.{Part, no_part}
use Rattle.worksheet.specs.Worksheet.{streets_out, borne, all_weights, street_lengths, leg_lengths}

-- an odd number of streets lead out of each part, no street bears more than twice its length, and the last line's two numbers are equal
pub record Ticked (t : Town) (ls : List Leg) (ps : List Part) : Type 0 where
  pub odd : (i : ℕ) → i < length ps → length (streets_out t (slice_index_or ps i no_part)) % 2 ≡ 1
  pub bears : (k : ℕ) → k < size t → sum (borne ps (street t k)) ≤ 2 * (street t k).long
  pub equal : 2 * sum (leg_lengths t ls) ≡ 2 * sum (street_lengths t) + sum (all_weights ps)

-- then no round is shorter than these legs, if they are one
abbrev pub TickedShortest : Type 0
TickedShortest = (t : Town) (depot : ℕ) (ls : List Leg) (ps : List Part) → Round t depot ls → Ticked t ls ps → Shortest t depot ls
