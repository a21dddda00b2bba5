-- The steps of the proof of `charge` that are not found by search.
use Rattle.std.proofs.Common.{◌≡◌, not, ◌&&◌, pos, ◌-ℤ◌, neg_ℤ, ◌∙◌, arith, w64, SFits, to_z, of_z, rules}
use Rattle.std.proofs.lemmas.Int.{ints}
use Rattle.road.specs.Counts.{cut}
use Rattle.road.specs.Model.{marked}
use Rattle.join.specs.Amounts.{amount}
use Rattle.join.specs.Problems.{town_in, reached_in}
use Rattle.join.specs.Turns.{lengths_at, potential_at}
use Rattle.join.proofs.Restoring.{outside_parts, cut_below}
use Rattle.join.proofs.Shifting.{shifted_down}
use Rattle.join.proofs.level.Level.charge.Goals as goal

pub returns : goal.returns
returns c =
    let p = c.args.problem.now in
    let v = c.args.self.now in
    let z = c.args.stage.now.charge in
    let Z = marked c.args.stage.now.marks in
    let f : SFits w64 z = search rules in
    let e : to_z w64 (of_z w64 (pos 0 -ℤ to_z w64 (of_z w64 z))) ≡ neg_ℤ (pos (amount z)) = omega (arith, ints, f, c.args.stage.now.whole) in
    let r = c.shift.ensures in
    record {
      streets = r.streets ∙ shifted_down (cut (town_in p) Z) _ (lengths_at v) (amount z) e (λ k u. c.requires.streets k (cut_below p.streets.town.now Z 0 k u) u);
      crossings = r.crossings ∙ shifted_down (λ u. reached_in p u && not (Z u)) _ (potential_at v) (amount z) e
          (λ u o. let i = outside_parts (reached_in p u) (Z u) o in c.requires.crossings u i.0 i.1);
    }
