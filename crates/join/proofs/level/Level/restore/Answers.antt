-- The steps of the proof of `restore` that are not found by search.
use Rattle.std.proofs.Common.{◌≡◌, not, ◌&&◌, pos, ◌∙◌, w64, SFits, to_z, of_z, rules}
use Rattle.std.proofs.lemmas.Int.{to_z-of_z}
use Rattle.road.specs.Counts.{cut}
use Rattle.road.specs.Model.{marked}
use Rattle.join.specs.Amounts.{amount}
use Rattle.join.specs.Problems.{town_in, reached_in}
use Rattle.join.specs.Turns.{lengths_at, potential_at}
use Rattle.join.proofs.Shifting.{shifted_up}
use Rattle.join.proofs.level.Level.restore.Goals as goal

pub returns : goal.returns
returns c =
    let p = c.args.problem.now in
    let z = c.args.stage.now.charge in
    let Z = marked c.args.stage.now.marks in
    let f : SFits w64 z = search rules in
    let e : to_z w64 (of_z w64 z) ≡ pos (amount z) = to_z-of_z w64 z f ∙ c.args.stage.now.whole in
    let r = c.shift.ensures in
    record {
      streets = r.streets ∙ shifted_up (cut (town_in p) Z) _ (lengths_at c.args.self.now) (amount z) e;
      crossings = r.crossings ∙ shifted_up (λ u. reached_in p u && not (Z u)) _ (potential_at c.args.self.now) (amount z) e;
    }
