-- The steps of the proof of `new` that are not found by search.
use Rattle.std.proofs.Common.{sym, subst, arith}
use Rattle.road.specs.Model.{model}
use Rattle.road.proofs.Models.{size_model}
use Rattle.ways.specs.Relaxed.{Closed}
use Rattle.ways.proofs.Shown.{all_shown}
use Rattle.ways.proofs.ways.Ways.new.Goals as goal

pub returns : goal.returns
returns c =
    let t = c.args.town.now in
    let made = c.in_ok-ways.ensures in
    let done = c.in_ok-relax.ensures in
    let ws = c.relax.new.self in
    (c.if-start-town.false, all_shown (model t) ws c.args.start (omega (arith, done.0, made.0)) done.1 (subst (λ n. Closed (model t) ws n) (sym (size_model t)) done.2))
