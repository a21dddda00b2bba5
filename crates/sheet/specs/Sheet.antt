-- Sheets that show why no round is shorter. Assumes nothing: these are definitions.
use Rattle.std.specs.Prelude.{◌≡◌, ℕ, ◌+◌, ◌*◌, ◌%◌, ◌<◌, ◌≤◌, Bool, List, [], ◌∷◌, length, slice_index_or}
use Rattle.road.specs.declared.street.Street.{Street}
use Rattle.road.specs.Roads.{pick, Town, street}
use Rattle.road.specs.Counts.{◌⊕◌}
use Rattle.road.specs.Model.{marked}

-- a part of the town, as a mark for each crossing, with a weight
pub record Part : Type 0 where
  pub marks : List Bool
  pub weight : ℕ

abbrev pub no_part : Part
no_part = record { marks = []; weight = 0 }

-- whether a street leads out of the part
unfoldable pub leads_out : List Bool → Street → Bool
leads_out ms s = marked ms s.one ⊕ marked ms s.two

unfoldable pub ways_out : List Bool → List Street → ℕ
ways_out ms [] = 0
ways_out ms (s ∷ ss) = pick (leads_out ms s) 1 0 + ways_out ms ss

-- what the parts whose border a street crosses weigh
unfoldable pub load : List Part → Street → ℕ
load [] s = 0
load (p ∷ ps) s = pick (leads_out p.marks s) p.weight 0 + load ps s

unfoldable pub weights : List Part → ℕ
weights [] = 0
weights (p ∷ ps) = p.weight + weights ps

-- each part has an odd number of streets leading out of it, and no street is loaded with more than twice its length
pub record Sheet (t : Town) (ps : List Part) : Type 0 where
  pub odd : (i : ℕ) → i < length ps → ways_out (slice_index_or ps i no_part).marks t.streets % 2 ≡ 1
  pub bears : (k : ℕ) → k < length t.streets → load ps (street t k) ≤ 2 * (street t k).long
