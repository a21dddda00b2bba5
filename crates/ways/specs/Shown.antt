-- What ways show of drives between crossings. Assumes nothing: these are definitions.
use Rattle.std.specs.Prelude.{◌≡◌, ℕ, ◌<◌, ◌≤◌, ◌↔◌, length, Some, None, vec_items, Option, slice_index_or}
use Rattle.road.specs.Roads.{Town, Drive, far}
use Rattle.ways.specs.declared.way.Way.{Way}
use Rattle.ways.specs.declared.ways.Ways.{Ways}
use Rattle.ways.specs.declared.no_ways.NoWays.{NoWays}
use Rattle.ways.specs.declared.no_ways.NoWays.TheVariants.{NoCrossing, Memory}
use Rattle.ways.specs.Least.{Least, Apart}

-- the way to v, and its length
abbrev pub to : Ways → ℕ → Option Way
to ws v = slice_index_or (vec_items ws.ways) v None

abbrev pub distance_of : Option Way → Option ℕ
distance_of None = None
distance_of (Some w) = Some w.length

-- how many crossings the ways are for
abbrev pub places : Ways → ℕ
places ws = length (vec_items ws.ways)

-- a way is a drive from v to u of its length
pub record Drives (t : Town) (v u : ℕ) (w : Way) : Type 0 where
  pub drive : Drive t v (vec_items w.legs) u
  pub long : far t (vec_items w.legs) ≡ w.length

-- a way is a drive of the least length, and there is none just if there is no drive
pub record Shows (t : Town) (v u : ℕ) (o : Option Way) : Type 0 where
  pub drives : (w : Way) → o ≡ Some w → Drives t v u w
  pub least : (d : ℕ) → (distance_of o ≡ Some d) ↔ Least t v u d
  pub none : (o ≡ None) ↔ Apart t v u

-- so for every crossing, and no way is longer than 10,000,000 metres
pub record AllShown (t : Town) (start : ℕ) (ws : Ways) : Type 0 where
  pub from : ws.start ≡ start
  pub count : places ws ≡ t.crossings
  pub ways : (u : ℕ) → u < t.crossings → Shows t start u (to ws u)
  pub low : (u : ℕ) (w : Way) → to ws u ≡ Some w → w.length ≤ 10000000

-- of n crossings, v is refused just if it is none of them; else only memory can be wanting
abbrev pub Refuses : ℕ → ℕ → NoWays → Type 0
Refuses n v (NoCrossing c) = (c ≡ v) × (n ≤ v)
Refuses n v (Memory e) = v < n
