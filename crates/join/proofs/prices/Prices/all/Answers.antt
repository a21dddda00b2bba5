-- The step of the proof of `all` that is not found by search.
use Rattle.std.proofs.Common.{pos, rules}
use Rattle.join.specs.Prices.{price_in}
use Rattle.road.proofs.FromFn.{holds_each}
use Rattle.join.proofs.prices.Prices.all.Goals as goal

pub returns : goal.returns
returns c u h = holds_each (λ u. pos (price_in c.args.self.now u)) c.from_fn.ensures.items (λ u y q l e. search rules) u (pos 0) h
