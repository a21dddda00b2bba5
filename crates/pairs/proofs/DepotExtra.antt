-- The extra drives to the depot: they lead there, no others are shorter, and no pairing is. Assumes nothing.
use Rattle.std.proofs.Common.{◌≡◌, ℕ, ◌<◌, ◌≤◌, true, false, List, ◌∙◌, arith}
use Rattle.road.specs.Counts.{Set}
use Rattle.road.specs.Model.{marked}
use Rattle.road.proofs.Reached.{reached_start}
use Rattle.join.specs.declared.least.LeastDrives.{LeastDrives}
use Rattle.join.specs.Extra.{extra_length}
use Rattle.join.specs.Laws.{town_of, depot_of}
use Rattle.join.specs.Odd.{odd_at}
use Rattle.join.proofs.Cost.{cost_double}
use Rattle.join.proofs.Pairing.{inside_model}
use Rattle.join.proofs.Parts.{least_drives}
use Rattle.pairs.specs.Walks.{Walk}
use Rattle.pairs.specs.Pairings.{depot_extra, far_of, Pairing, NoShorter, Paired}
use Rattle.pairs.specs.Laws.{PairingLeast}
use Rattle.pairs.proofs.Pairings.{Left, LeastExtra, pairing_least, left_paired}

module _ (s : LeastDrives) where
  pub at_home : marked s.reached (depot_of s) ≡ true
  at_home = s.found (depot_of s) ∙ reached_start (town_of s) (depot_of s)

  extra_least : LeastExtra (town_of s) (depot_of s) (depot_extra s)
  extra_least K j =
      let t = town_of s in
      omega (arith, (least_drives s).least (depot_of s) at_home K j, s.costs (depot_of s) at_home, cost_double t K, cost_double t (depot_extra s))

  pub extra_shortest : (qs : List Walk) → Pairing (town_of s) qs → extra_length (town_of s) (depot_extra s) ≤ far_of (town_of s) qs
  extra_shortest = pairing_least (town_of s) (inside_model s.town.now.town) (depot_of s) s.town.now.town.home (depot_extra s) extra_least

  -- once no crossing is left odd
  pub all_paired : (L : Set) (ps : List Walk) → Left (town_of s) (depot_extra s) L ps → ((v : ℕ) → v < (town_of s).crossings → odd_at (town_of s) L v ≡ false) →
      Paired (town_of s) (depot_extra s) ps × NoShorter (town_of s) ps
  all_paired = left_paired (town_of s) (inside_model s.town.now.town) (depot_of s) s.town.now.town.home (depot_extra s) extra_least (s.joins (depot_of s) at_home)

pub pairing_least_stands : PairingLeast
pairing_least_stands s = (extra_shortest s, λ ps p qs q. omega (arith, p.together, extra_shortest s qs q))
