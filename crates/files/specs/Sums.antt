-- Lengths that are added up, and the line that says so. Assumes nothing: these are definitions.
use Rattle.std.specs.Prelude.{ℕ, ◌+◌, ◌^◌, ◌&&◌, nat_lt, cond, List, [], ◌++◌, codes, decimal, Option, Some, None}
use Rattle.files.specs.declared.answer.Lengths.{Lengths}

abbrev pub none_yet : Lengths
none_yet = record { round = 0; streets = 0 }

abbrev pub both_sums : Lengths → Lengths → Lengths
both_sums a b = record { round = a.round + b.round; streets = a.streets + b.streets }

-- the sums of both, unless one is too long for its type
abbrev pub both : Lengths → Lengths → Option Lengths
both a b = cond (nat_lt (a.round + b.round) (2 ^ 128) && nat_lt (a.streets + b.streets) (2 ^ 128)) (Some (both_sums a b)) None

-- an answer that went well counts as one, and its lengths are added
abbrev pub count : Option Lengths → ℕ
count None = 0
count (Some b) = 1

abbrev pub joined : Option Lengths → Option Lengths → Option Lengths
joined a None = a
joined None (Some b) = None
joined (Some a) (Some b) = both a b

abbrev pub sums : Option Lengths → List ℕ
sums None = []
sums (Some a) = codes ", length " ++ (decimal a.round ++ (codes " of " ++ decimal a.streets))

-- how many went well of how many, and the sums of these
abbrev pub last_line : ℕ → ℕ → List ℕ → Option Lengths → List ℕ
last_line well named done together = codes "# " ++ (decimal well ++ (codes " of " ++ (decimal named ++ (codes " " ++ done)))) ++ sums together ++ codes "\n"
