-- One more part is written, and is no longer left; at the end none is.
use Rattle.std.proofs.Common.{◌+◌, ap, drop, string_bytes}
use Rattle.std.proofs.lemmas.List.{at_drop_more, drop_all}
use Rattle.road.specs.Model.{model}
use Rattle.worksheet.specs.Model.{parts_of}
use Rattle.worksheet.specs.Worksheet.{part_line}
use Rattle.worksheet.proofs.Writing.{next_line, all_lines}
use Rattle.worksheet.proofs.given.Given.write_parts.Goals as goal

pub loop-i-preserved : goal.loop-i-preserved
loop-i-preserved c =
    let ps = c.args.self.now.parts.now in
    let i = c.loop-i.i in
    next_line (part_line (model c.args.self.now.town.now)) i _ (string_bytes c.loop-i.out) (string_bytes c.write_part.new.out) _ _ (parts_of (drop (i + 1) ps)) (at_drop_more parts_of ps i _ c.loop-i-test.true) c.loop-i.invariant c.in_ok-write_part.ensures

pub returns : goal.returns
returns c = all_lines (part_line (model c.args.self.now.town.now)) c.loop-i.i _ (string_bytes c.loop-i.out) _ (ap parts_of (drop_all c.loop-i.i c.args.self.now.parts.now c.loop-i-test.false)) c.loop-i.invariant
