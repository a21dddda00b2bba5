-- What is written is the sum of these numbers.
use Rattle.std.proofs.Common.{◌≡◌, ◌++◌, codes, string_bytes, OnOk, subst, ◌∙◌}
use Rattle.worksheet.specs.Worksheet.{sum_line}
use Rattle.worksheet.proofs.given.Given.write_leg_lengths.Goals as goal

pub returns : goal.returns
returns c =
    subst (λ xs. OnOk c.write_sum_line.result (string_bytes c.write_sum_line.new.out ≡ string_bytes c.args.out.now ++ sum_line (codes "the round measures ") xs)) (c.as_slice.ensures.value ∙ c.in_ok-lengths.ensures) c.write_sum_line.ensures
