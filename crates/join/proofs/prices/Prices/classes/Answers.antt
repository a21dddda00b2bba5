-- The steps of the proof of `classes` that are not found by search.
use Rattle.join.specs.Problems.{town_in}
use Rattle.join.specs.Turns.{lengths_at, potential_at}
use Rattle.join.proofs.Beginning.{alone_classed, alone_progress, begin_run}
use Rattle.join.proofs.prices.Prices.classes.Goals as goal

pub merge-requires : goal.merge-requires
merge-requires c = alone_classed (town_in c.args.self.now.problem) (lengths_at c.args.level.now) c.in_ok-classes.classes c.in_ok-classes.ensures

pub returns : goal.returns
returns c =
    let q = c.args.self.now in
    let v = c.args.level.now in
    let m = c.merge.ensures in
    begin_run q v c.merge.new.self (record { pass = c.requires.pass; classed = m.classed; merged = m.merged }) c.requires.after
    (m.progress (potential_at v) 0 (alone_progress q v c.in_ok-classes.classes c.in_ok-classes.ensures))
