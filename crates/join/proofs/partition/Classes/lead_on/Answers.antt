-- The steps of the proof of `lead_on` that are not found by search.
use Rattle.std.proofs.Common.{ap, ◌∙◌, ap₂}
use Rattle.road.specs.Model.{marked}
use Rattle.join.specs.Joins.{◌⊞◌, single}
use Rattle.join.proofs.partition.Classes.lead_on.Goals as goal

pub returns : goal.returns
returns c =
    let inside = c.xor-inside.ensures ∙ ap₂ (λ J Q. J ⊞ Q) c.way_to.ensures c.way_to-2.ensures in
    c.flip.ensures ∙ ap (λ J. J ⊞ single c.args.k) (c.xor.ensures ∙ ap (λ J. marked c.args.drives.now ⊞ J) inside)
