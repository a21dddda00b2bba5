-- One more part is written; at the end none is left.
use Rattle.std.proofs.Common.{◌+◌, ◌<◌, ◌++◌, length, string_bytes, refl, rules}
use Rattle.std.specs.List.{flat_map}
use Rattle.sheet.specs.Numbers.{sheet_in}
use Rattle.text.specs.Plans.{part_line}
use Rattle.text.proofs.Writing.{next_part, all_parts}
use Rattle.text.proofs.plan_lines.write_parts.Goals as goal

pub returns-in_default : goal.returns-in_default
returns-in_default c =
    let s = string_bytes c.args.out.now in
    let few : length c.args.numbers.now < 1 + c.args.crossings = search rules in
    all_parts c.args.crossings (s ++ flat_map part_line (sheet_in c.args.crossings c.args.numbers.now)) s c.args.numbers.now few refl

pub loop-part-preserved : goal.loop-part-preserved
loop-part-preserved c = record {
  size = search rules;
  written = next_part c.args.crossings _ (string_bytes c.loop-part.out) (string_bytes c.write_part.new.out) c.in-Some-part.part.now c.next.new.self.rest.now c.loop-part.part-iterator.rest.now
      (search rules) (search rules) c.loop-part.invariant.written c.in_ok-write_part.ensures;
}

pub returns : goal.returns
returns c = all_parts c.args.crossings _ (string_bytes c.loop-part.out) c.loop-part.part-iterator.rest.now (search rules) c.loop-part.invariant.written
