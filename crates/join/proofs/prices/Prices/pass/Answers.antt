-- The steps of the proof of `pass` that are not found by search.
use Rattle.std.proofs.Common.{vec_items, subst}
use Rattle.join.specs.Passes.{Ends}
use Rattle.join.specs.Problems.{town_in}
use Rattle.join.proofs.Beginning.{listed_none}
use Rattle.join.proofs.Certifying.{certify}
use Rattle.join.proofs.Reversing.{shows_back}
use Rattle.join.proofs.prices.Prices.pass.Goals as goal

pub take_turns-requires : goal.take_turns-requires
take_turns-requires c =
    rw (c.in_ok-stages.ensures.items, c.in_ok-borders.ensures.items) (record { run = c.in_ok-classes.ensures; listed = listed_none (town_in c.args.self.now.problem) })

pub returns : goal.returns
returns c =
    let v = c.take_turns.new.self in
    let ss = vec_items c.take_turns.new.stages in
    let d = c.in_ok-found.ensures in
    shows_back ss (vec_items c.reverse.new.self) c.reverse.ensures.items _ (certify _ c.take_turns.new.classes ss v d.run (subst (Ends c.args.self.now v) c.in-None.is d.ends))
