-- The step of the proof of `leg_lengths` that is not found by search.
use Rattle.std.proofs.Common.{rules}
use Rattle.std.proofs.lemmas.Simd.{map-map}
use Rattle.std.proofs.iter.runs.Made.{chains}
use Rattle.road.specs.declared.leg.Leg.{Leg}
use Rattle.road.specs.Roads.{street}
use Rattle.road.specs.Numbers.{leg_in}
use Rattle.road.specs.Model.{model}
use Rattle.worksheet.proofs.given.Given.leg_lengths.Goals as goal

pub returns : goal.returns
returns c = rw (map-map (λ (l : Leg). (street (model c.args.self.now.town.now) l.by).long) leg_in c.args.self.now.legs.now) (search (rules, chains))
