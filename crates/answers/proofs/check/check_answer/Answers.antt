-- The line says shortest just if the text tells a shortest round and a sheet that shows it.
use Rattle.std.proofs.Common.{rules}
use Rattle.files.specs.declared.answer.Reply.{Reply}
use Rattle.answers.specs.Answers.{Checks}
use Rattle.answers.proofs.Checked.{told_shortest, told_least}
use Rattle.answers.proofs.check.check_answer.Goals as goal

pub returns-clause-shortest : goal.returns-clause-shortest
returns-clause-shortest c =
    let a : Reply = record { text = c.in_ok-format.field-0; lengths = c.shortest_lengths_of.result } in
    let k : Checks c.args.text.now a = search rules in
    λ n h. told_shortest c.args.text.now a k n h c.shortest_lengths_of.ensures.small

pub returns-clause-least : goal.returns-clause-least
returns-clause-least c =
    let a : Reply = record { text = c.in_ok-format.field-0; lengths = c.shortest_lengths_of.result } in
    let k : Checks c.args.text.now a = search rules in
    λ n h e. told_least c.args.text.now n ((told_shortest c.args.text.now a k n h c.shortest_lengths_of.ensures.small).0 e)
