-- One more number is written; at the end all are.
use Rattle.std.proofs.Common.{◌++◌, codes, decimal, string_bytes}
use Rattle.worksheet.proofs.Writing.{next_number, all_numbers}
use Rattle.worksheet.proofs.rows.write_more.Goals as goal

pub loop-term-preserved : goal.loop-term-preserved
loop-term-preserved c =
    next_number (λ x. codes " + " ++ decimal x) (string_bytes c.args.out.now) (string_bytes c.loop-term.out) (string_bytes c.write.new.self) c.args.terms.now c.loop-term.term-index _ c.loop-term-test.true c.loop-term.invariant c.in_ok-write.ensures.bytes

pub returns : goal.returns
returns c = all_numbers (λ x. codes " + " ++ decimal x) (string_bytes c.args.out.now) (string_bytes c.loop-term.out) c.args.terms.now c.loop-term.term-index c.loop-term-test.false c.loop-term.invariant
