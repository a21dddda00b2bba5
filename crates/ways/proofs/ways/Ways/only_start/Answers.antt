-- The steps of the proof of `only_start` that are not found by search.
use Rattle.std.proofs.Common.{refl}
use Rattle.road.specs.Model.{model}
use Rattle.ways.proofs.Relaxed.{come_start}
use Rattle.ways.proofs.ways.Ways.only_start.Goals as goal

pub returns : goal.returns
returns c =
    let t = c.args.town.now in (
      refl,
      come_start (model t) (record { start = c.args.start; ways = c.in_ok-ways.ways }) (record { length = 0; legs = c.new.result }) t.most c.in_ok-ways.ensures
          c.requires refl c.new.ensures.items,
    )
