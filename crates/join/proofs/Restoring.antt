-- A charge that is taken off and put back. Assumes nothing.
use Rattle.std.proofs.Common.{◌≡◌, ℕ, ◌+◌, ◌-◌, ◌<◌, ◌≤◌, Bool, true, false, not, ◌&&◌, ⊎_elim, arith}
use mathlib.Core.Path.{fun_ext}
use Rattle.std.proofs.lemmas.Bool.{both_ways, cases_lt, and_parts, not-true}
use Rattle.road.specs.declared.town.Town.{Town}
use Rattle.road.specs.Counts.{when, size, Set, cut}
use Rattle.road.specs.Model.{model}
use Rattle.road.proofs.Models.{size_model}
use Rattle.join.specs.Joins.{shorter}
use Rattle.join.specs.Potentials.{lower}
use Rattle.join.specs.Passes.{longer, higher}
use Rattle.join.proofs.StreetSets.{cut_past}

-- at one place: what is taken off, where there is enough, is put back
pub back_at : (b : Bool) (n e : ℕ) → (b ≡ true → e ≤ n) → n - when b e + when b e ≡ n
back_at b n e h = grind arith

-- a crossing of In that is not in Z
pub outside_parts : (a z : Bool) → (a && not z) ≡ true → (a ≡ true) × (z ≡ false)
outside_parts a z e = let p = and_parts a (not z) e in (p.0, not-true z p.1)

module _ (t : Town) (Z : Set) (e : ℕ) where
  -- a street that is cut is one of the town's
  pub cut_below : (k : ℕ) → cut (model t) Z k ≡ true → k < size (model t)
  cut_below k c = ⊎_elim (λ lt. omega (arith, size_model t)) (λ le. absurd (both_ways (cut (model t) Z k) (cut_past t Z k le) c)) (cases_lt k t.count)

  pub longer_shorter : (l : ℕ → ℕ) → ((k : ℕ) → k < size (model t) → cut (model t) Z k ≡ true → e ≤ l k) → longer (model t) Z e (shorter (model t) Z e l) ≡ l
  longer_shorter l h = fun_ext (λ k. back_at (cut (model t) Z k) (l k) e (λ c. h k (cut_below k c) c))

module _ (In Z : Set) (e : ℕ) where
  pub higher_lower : (g : ℕ → ℕ) → ((u : ℕ) → In u ≡ true → Z u ≡ false → e ≤ g u) → higher In Z e (lower In Z e g) ≡ g
  higher_lower g h = fun_ext (λ u. back_at (In u && not (Z u)) (g u) e (λ o. let p = outside_parts (In u) (Z u) o in h u p.0 p.1))
