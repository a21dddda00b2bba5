-- A plan has numbers that are short enough for its text to be read back. Assumes nothing.
use Rattle.std.proofs.Common.{◌≡◌, ℕ, ◌*◌, ◌<◌, ◌≤◌, List, length, get_or, ap, arith}
use Rattle.std.proofs.lemmas.List.{get_or_default}
use Rattle.road.specs.declared.leg.Leg.{Leg}
use Rattle.road.specs.Roads.{Town, far, all_streets}
use Rattle.road.specs.Laws.{no_leg}
use Rattle.road.specs.Counts.{size}
use Rattle.road.proofs.Sums.{sum_most}
use Rattle.sheet.specs.Sheet.{Part, no_part, weights}
use Rattle.sheet.specs.Numbers.{AllMarked}
use Rattle.sheet.proofs.Borders.{weights_sum}
use Rattle.road.proofs.Drives.{drive_below}
use Rattle.text.specs.Laws.{ShortPlan}
use Rattle.round.specs.Plans.{Agreed}

pub short_plan : (t : Town) (depot : ℕ) (ls : List Leg) (ps : List Part) → Agreed t depot ls ps → AllMarked t.crossings ps → t.crossings ≤ 100 → size t ≤ 300 → all_streets t.streets ≤ 30000000 →
    ShortPlan t.crossings ls (far t ls) (all_streets t.streets) ps
short_plan t depot ls ps a marks few small most = record {
  crossings = few;
  legs = λ k d h. omega (arith, drive_below t a.shortest.round.drive k h, leg_at k d h);
  lengths = (omega (arith, a.agree, weigh, a.parts), omega arith);
  marks = marks;
  weights = λ k d h. omega (arith, a.small k h, part_at k d h);
}
  where
    weigh : weights ps ≤ 10000000 * length ps
    weigh = omega (arith, weights_sum ps, sum_most (length ps) 10000000 (λ i. (get_or ps i no_part).weight) a.small)

    leg_at : (k : ℕ) (d : Leg) → k < length ls → (get_or ls k d).by ≡ (get_or ls k no_leg).by
    leg_at k d h = ap (λ (l : Leg). l.by) (get_or_default ls k d no_leg h)

    part_at : (k : ℕ) (d : Part) → k < length ps → (get_or ps k d).weight ≡ (get_or ps k no_part).weight
    part_at k d h = ap (λ (p : Part). p.weight) (get_or_default ps k d no_part h)
