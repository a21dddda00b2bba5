-- The step of the proof of `first_prices` that is not found by search.
use Rattle.std.proofs.Common.{vec_items}
use Rattle.join.proofs.Starting.{reached_below, begun_high}
use Rattle.join.proofs.first_prices.Start.first_prices.Goals as goal

pub invariant_of-result : goal.invariant_of-result
invariant_of-result c =
    let p = c.args.self.now.problem.now in
    let b = c.in_ok-extra.ensures in
    record {
      rows = b.long;
      high = begun_high p (vec_items c.in_ok-extra.extra) b;
      joins = λ u r. b.joins u (reached_below p u r) r;
      costs = λ u r. b.costs u (reached_below p u r);
    }
