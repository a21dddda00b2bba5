-- The steps of the proof of `leg_to_smaller` that are not found by search.
use Rattle.std.proofs.Common.{◌<◌, arith}
use Rattle.join.specs.Weights.{town_of, lengths_of}
use Rattle.join.proofs.StreetSets.{ends_below}
use Rattle.join.proofs.Uniting.{label_small}
use Rattle.join.proofs.partition.Classes.leg_to_smaller.Goals as goal

pub size_of-requires : goal.size_of-requires
size_of-requires c =
    let w = c.args.streets.now in
    let h : c.street-street.result.one < 100 = omega (arith, c.street-street.ensures.within.0, w.town.now.most) in
    (h, label_small (town_of w) (lengths_of w) c.args.self.now c.street-street.result.one (ends_below w.town.now) c.requires h)

pub size_of-requires-2 : goal.size_of-requires-2
size_of-requires-2 c =
    let w = c.args.streets.now in
    let h : c.street-street.result.two < 100 = omega (arith, c.street-street.ensures.within.1, w.town.now.most) in
    (h, label_small (town_of w) (lengths_of w) c.args.self.now c.street-street.result.two (ends_below w.town.now) c.requires h)
