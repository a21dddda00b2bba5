-- Sets of extra drives with what they cost, one for each crossing. Assumes nothing: these are definitions.
use Rattle.std.specs.Prelude.{ℕ, List, [], pos, slice_index_or, refl}
use Rattle.road.specs.Counts.{Set}
use Rattle.road.specs.Model.{marked}
use Rattle.join.specs.declared.drives.PricedDrives.{PricedDrives}
use Rattle.join.specs.Amounts.{amount}

-- what stands where there is none
abbrev pub no_drives : PricedDrives
no_drives = record { drives = []; price = pos 0; whole = refl }

-- the set for a crossing, and its price
abbrev pub drives_of : List PricedDrives → ℕ → Set
drives_of ss u = marked (slice_index_or ss u no_drives).drives

abbrev pub price_of : List PricedDrives → ℕ → ℕ
price_of ss u = amount (slice_index_or ss u no_drives).price
