-- The step of the proof of `inner_end` that is not found by search.
use Rattle.std.proofs.Common.{ap₂, ◌∙◌}
use Rattle.road.specs.Roads.{pick, from}
use Rattle.road.specs.Counts.{one, two}
use Rattle.join.specs.Weights.{ground}
use Rattle.join.proofs.cut.Cut.inner_end.Goals as goal

pub returns-clause-is : goal.returns-clause-is
unfolding from
returns-clause-is c =
    let t = ground c.args.self.now in
    c.begin_of.ensures.is ∙ ap₂ (λ r i. pick r (two t i) (one t i)) c.leg_out.ensures.back c.leg_out.ensures.by
