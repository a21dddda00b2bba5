-- One more street is written, and is no longer left; at the end none is.
use Rattle.std.proofs.Common.{◌+◌, drop, string_bytes}
use Rattle.road.specs.Model.{model}
use Rattle.worksheet.specs.Model.{parts_of}
use Rattle.worksheet.specs.Worksheet.{street_line}
use Rattle.worksheet.proofs.Writing.{next_line, all_lines, split_at, none_at}
use Rattle.worksheet.proofs.given.Given.write_streets.Goals as goal

pub loop-k-preserved : goal.loop-k-preserved
loop-k-preserved c =
    let ss = (model c.args.self.now.town.now).streets in
    let k = c.loop-k.k in
    next_line (street_line (parts_of c.args.self.now.parts.now)) k _ (string_bytes c.loop-k.out) (string_bytes c.write_street.new.out) _ _ (drop (k + 1) ss)
    (split_at c.streets-street-items.result.now ss k _ c.streets-street-items.ensures c.loop-k-test.true) c.loop-k.invariant c.in_ok-write_street.ensures

pub returns : goal.returns
returns c =
    let ss = (model c.args.self.now.town.now).streets in
    all_lines (street_line (parts_of c.args.self.now.parts.now)) c.loop-k.k _ (string_bytes c.loop-k.out) _ (none_at c.streets-street-items.result.now ss c.loop-k.k c.streets-street-items.ensures c.loop-k-test.false) c.loop-k.invariant
