-- The step of the proof of `grow_on` that is not found by search.
use Rattle.std.proofs.Common.{true, false, arith}
use Rattle.std.proofs.lemmas.List.{get_or-replicate}
use Rattle.std.proofs.lemmas.Bool.{both_ways}
use Rattle.road.specs.Counts.{cut}
use Rattle.join.specs.Weights.{town_of}
use Rattle.join.specs.Components.{crossings_in}
use Rattle.join.proofs.component.Component.grow_on.Goals as goal

pub returns-clause-tried : goal.returns-clause-tried
returns-clause-tried c =
    let k = c.in-Some.k in
    let on = c.in-Some.ensures in
    let tried = c.grow_over-grown.ensures.tried in record {
      less = λ e. omega (arith, tried.less e, c.explore_within.ensures.more);
      same = λ e. absurd (both_ways (cut (town_of c.args.streets.now) (crossings_in c.args.self.now) k)
          ((tried.same e).1 (get_or-replicate 300 k true false (omega (arith, on.0, c.args.streets.now.town.now.few)))) on.1);
    }
