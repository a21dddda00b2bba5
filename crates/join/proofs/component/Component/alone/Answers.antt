-- The step of the proof of `alone` that is not found by search.
use Rattle.std.proofs.Common.{refl}
use Rattle.join.proofs.Growing.{grown_alone}
use Rattle.join.proofs.component.Component.alone.Goals as goal

pub returns : goal.returns
returns c = (refl, λ t A. grown_alone t A _ c.args.from c.requires refl c.only.ensures c.in_ok-no_ways.ensures)
