-- The step of the proof of `outer_end` that is not found by search.
use Rattle.std.proofs.Common.{◌≡◌, ℕ, Bool, true, false, not, refl, ap₂, ◌∙◌}
use Rattle.road.specs.Roads.{pick, into}
use Rattle.road.specs.Counts.{one, two}
use Rattle.join.specs.Weights.{ground, side_of}
use Rattle.join.proofs.cut.Cut.outer_end.Goals as goal

turned : (b : Bool) (x y : ℕ) → pick (not b) x y ≡ pick b y x
turned true x y = refl
turned false x y = refl

pub returns-clause-is : goal.returns-clause-is
unfolding into
returns-clause-is c =
    let t = ground c.args.self.now in
    c.end_of.ensures.is ∙ ap₂ (λ r i. pick r (one t i) (two t i)) c.leg_out.ensures.back c.leg_out.ensures.by ∙ turned (side_of c.args.self.now (one t c.args.k)) _ _
