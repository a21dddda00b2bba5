-- One more number is written; at the end all are.
use Rattle.std.proofs.Common.{string_bytes}
use Rattle.worksheet.specs.Worksheet.{number_text}
use Rattle.worksheet.proofs.Writing.{next_number, all_numbers}
use Rattle.worksheet.proofs.rows.write_numbers.Goals as goal

pub loop-number-preserved : goal.loop-number-preserved
loop-number-preserved c =
    next_number number_text (string_bytes c.args.out.now) (string_bytes c.loop-number.out) (string_bytes c.write.new.self) c.args.numbers.now c.loop-number.number-index _ c.loop-number-test.true c.loop-number.invariant c.in_ok-write.ensures.bytes

pub returns : goal.returns
returns c = all_numbers number_text (string_bytes c.args.out.now) (string_bytes c.loop-number.out) c.args.numbers.now c.loop-number.number-index c.loop-number-test.false c.loop-number.invariant
