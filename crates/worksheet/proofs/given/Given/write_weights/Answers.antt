-- What is written is the sum of these numbers.
use Rattle.std.proofs.Common.{◌≡◌, ◌++◌, codes, string_bytes, OnOk, subst, ◌∙◌}
use Rattle.worksheet.specs.Worksheet.{sum_line}
use Rattle.worksheet.proofs.given.Given.write_weights.Goals as goal

pub returns : goal.returns
returns c =
    subst (λ xs. OnOk c.write_sum_line.result (string_bytes c.write_sum_line.new.out ≡ string_bytes c.args.out.now ++ sum_line (codes "all parts weigh ") xs)) (c.as_slice.ensures.value ∙ c.in_ok-weights.ensures) c.write_sum_line.ensures
