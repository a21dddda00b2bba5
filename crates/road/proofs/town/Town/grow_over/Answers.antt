-- The steps of the proof of `grow_over` that are not found by search.
use Rattle.std.proofs.Common.{◌≡◌, ◌<◌, true, refl, rules, arith}
use Rattle.std.proofs.lemmas.Bool.{both_ways}
use Rattle.road.specs.Counts.{cut}
use Rattle.road.specs.Model.{model, marked}
use Rattle.road.proofs.Models.{size_model}
use Rattle.road.proofs.Growth.{leads_out, grown_more, unmarked_set}
use Rattle.road.proofs.town.Town.grow_over.Goals as goal

pub returns : goal.returns
returns c =
    let t = c.args.self.now in
    let ms = c.args.marks.now in
    let y = c.end_of-y.result in
    let cuts : cut (model t) (marked ms) c.args.k ≡ true = search rules in
    let side = leads_out (model t) c.args.k (marked ms) c.leg_out.result y c.leg_out.ensures.by c.leg_out.ensures.back cuts c.end_of-y.ensures.is in
    let below : y < 100 = omega (arith, c.end_of-y.ensures.below, t.most) in record {
      grown = grown_more (model t) t.depot c.args.k side.0 y ms c.requires.grown (omega (arith, size_model t)) side.1 side.2 side.3 below;
      tried = record {
        less = λ _. unmarked_set ms y c.requires.grown.places below side.3;
        same = λ e. absurd (both_ways true e refl);
      };
    }
