-- Where the first -- stands, the arguments are split.
use Rattle.std.proofs.Common.{◌∙◌, string_bytes, sym}
use Rattle.files.proofs.Splits.{before_some, after_some, before_none, after_none}
use Rattle.files.proofs.arguments.split_at_end.Goals as goal

pub returns-in-Some-clause-before : goal.returns-in-Some-clause-before
returns-in-Some-clause-before c = before_some string_bytes c.args.args.now c.in-Some.i _ (sym c.in-Some.is ∙ c.end_of_options.ensures)

pub returns-in-Some-clause-after : goal.returns-in-Some-clause-after
returns-in-Some-clause-after c = after_some string_bytes c.args.args.now c.in-Some.i _ (sym c.in-Some.is ∙ c.end_of_options.ensures)

pub returns-in-None-clause-before : goal.returns-in-None-clause-before
returns-in-None-clause-before c = before_none string_bytes c.args.args.now _ (sym c.in-None.is ∙ c.end_of_options.ensures)

pub returns-in-None-clause-after : goal.returns-in-None-clause-after
returns-in-None-clause-after c = after_none string_bytes c.args.args.now _ (sym c.in-None.is ∙ c.end_of_options.ensures)
