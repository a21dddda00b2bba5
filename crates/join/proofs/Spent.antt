-- Classes that bear no further charge, and how they come and stay so. Assumes nothing.
use Rattle.std.proofs.Common.{◌≡◌, ℕ, ◌+◌, ◌*◌, ◌≤◌, true, false, arith}
use Rattle.road.specs.Roads.{Town}
use Rattle.road.specs.Counts.{Set, cut, all}
use Rattle.road.proofs.Cuts.{side_cut}
use Rattle.join.specs.Joins.{shorter}
use Rattle.join.specs.Exchange.{Exit}
use Rattle.join.specs.Potentials.{lower}
use Rattle.join.specs.Progress.{Spent}
use Rattle.join.proofs.Exchange.{exit_cut}

module _ (t : Town) (l f cls : ℕ → ℕ) (In Z : Set) (e c : ℕ) where
  -- a class that is not charged stays spent
  pub spent_stays : (d : Spent t l f cls c) → In d.x ≡ true → In d.y ≡ true → Z d.x ≡ false → (cut t Z d.by ≡ true → e ≤ l d.by) → (Z d.y ≡ false → e ≤ f d.y) →
      Spent t (shorter t Z e l) (lower In Z e f) cls c
  spent_stays d ix iy zx fit covered = record {
    by = d.by;
    x = d.x;
    y = d.y;
    below = d.below;
    side = d.side;
    inside = d.inside;
    outside = d.outside;
    nearer = let n = d.nearer in let cuts = side_cut t d.by d.x d.y Z d.side in grind arith;
  }

  -- a class that is charged with all that the street k bears is spent
  pub spent_made : (k x y : ℕ) → Exit t Z all k x y → In x ≡ true → In y ≡ true → cls x ≡ c → (cls y ≡ c → ⊥) → f x + 2 * e ≡ f y + l k → e ≤ l k → e ≤ f y →
      Spent t (shorter t Z e l) (lower In Z e f) cls c
  spent_made k x y d ix iy in_c out-c exact fit covered = record {
    by = k;
    x = x;
    y = y;
    below = d.below;
    side = d.side;
    inside = in_c;
    outside = out-c;
    nearer = let zx = d.inside in let zy = d.outside in let cuts = exit_cut t Z all k x y d in grind arith;
  }
