-- The step of the proof of `lead_over` that is not found by search.
use Rattle.std.proofs.Common.{sym, ap, ◌∙◌, subst, arith, rules, w64}
use Rattle.std.proofs.lemmas.Int.{to_z-of_z}
use Rattle.road.specs.Roads.{into}
use Rattle.road.specs.Model.{marked}
use Rattle.road.proofs.Models.{size_model}
use Rattle.join.specs.Joins.{Joins, cost}
use Rattle.join.specs.Amounts.{amount}
use Rattle.join.specs.Problems.{town_in, costs_in, start_in}
use Rattle.join.proofs.Relaxing.{carried}
use Rattle.join.proofs.problem.Problem.lead_over.Goals as goal

pub returns : goal.returns
returns c =
    let p = c.args.self.now in
    let l = c.args.leg in
    let J = marked c.args.drives.now.drives in
    let cost_is = to_z-of_z w64 c.cost_flipped-drives.result (search rules) ∙ c.cost_flipped-drives.ensures in
    record {
      joins = subst (Joins (town_in p) (start_in p) (into (town_in p) l)) (sym c.toggle.ensures)
          (carried p l J (omega (arith, c.requires.below, size_model p.streets.town.now)) c.requires.led.joins);
      costs = ap amount cost_is ∙ ap (cost (town_in p) (costs_in p)) (sym c.toggle.ensures);
    }
