-- The steps of the proof of `check_round` that are not found by search.
use Rattle.std.proofs.Common.{rules}
use Rattle.road.specs.Numbers.{town_in, legs_in}
use Rattle.sheet.specs.Numbers.{sheet_in}
use Rattle.sheet.proofs.Judged.{judged_shows}
use Rattle.sheet.proofs.check.check_round.Goals as goal

pub returns-clause-shows : goal.returns-clause-shows
returns-clause-shows c =
    judged_shows (town_in c.args.crossings c.args.streets.now) c.args.depot (legs_in c.args.legs.now) (sheet_in c.args.crossings c.args.parts.now) c.judge.result (search rules)
