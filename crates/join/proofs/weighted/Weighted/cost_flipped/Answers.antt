-- The steps of the proof of `cost_flipped` that are not found by search.
use Rattle.std.proofs.Common.{◌<◌, arith}
use Rattle.std.proofs.lemmas.Int.{ints}
use Rattle.road.specs.Counts.{size}
use Rattle.road.specs.Model.{marked}
use Rattle.road.proofs.Models.{size_model}
use Rattle.join.specs.Weights.{town_of, lengths_of}
use Rattle.join.proofs.Cost.{cost_drop, cost_more}
use Rattle.join.proofs.StreetSets.{cost_bound}
use Rattle.join.proofs.weighted.Weighted.cost_flipped.Goals as goal

pub overflow_add-result : goal.overflow_add-result
overflow_add-result c =
    let w = c.args.self.now in
    omega (arith, ints, c.requires.before, c.length-length.ensures.is, c.length-length.ensures.most, cost_bound w.town.now (lengths_of w) (marked c.args.drives.now) w.most)

pub returns-then-drives-k : goal.returns-then-drives-k
returns-then-drives-k c =
    let w = c.args.self.now in
    let h : c.args.k < size (town_of w) = omega (arith, size_model w.town.now, c.requires.below) in
    omega (
      arith,
      ints,
      c.requires.before,
      c.length-length.ensures.is,
      c.length-length.ensures.most,
      cost_bound w.town.now (lengths_of w) (marked c.args.drives.now) w.most,
      cost_drop (town_of w) (lengths_of w) (marked c.args.drives.now) c.args.k h c.if-drives-k.true,
    )

pub returns-else-drives-k : goal.returns-else-drives-k
returns-else-drives-k c =
    let w = c.args.self.now in
    let h : c.args.k < size (town_of w) = omega (arith, size_model w.town.now, c.requires.below) in
    omega (
      arith,
      ints,
      c.requires.before,
      c.length-length.ensures.is,
      c.length-length.ensures.most,
      cost_bound w.town.now (lengths_of w) (marked c.args.drives.now) w.most,
      cost_more (town_of w) (lengths_of w) (marked c.args.drives.now) c.args.k h c.if-drives-k.false,
    )
