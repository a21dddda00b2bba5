-- A worksheet just if one is asked for.
use Rattle.std.proofs.Common.{◌≡◌, ℕ, Bool, true, false, List, bytes_eq, codes, cond, map, IfOk, sym, subst, ◌∙◌, rules, Bor}
use Rattle.std.specs.List.{list_any}
use Rattle.answers.specs.Answers.{Checks, Worksheets}
use Rattle.files.proofs.Lookups.{any_map}
use Rattle.checker.proofs.CheckerAnswer.answer.Goals as goal

-- the option among the texts of the options
asked : (options : List (Bor (List ℕ))) (b : Bool) → list_any (λ (o : Bor (List ℕ)). bytes_eq o.now (codes "--worksheet")) options ≡ b → b ≡ list_any (λ o. bytes_eq o (codes "--worksheet")) (map (λ o. o.now) options)
asked options b e = sym e ∙ any_map (λ (o : Bor (List ℕ)). o.now) (λ o. bytes_eq o (codes "--worksheet")) options

pub returns-then-contains : goal.returns-then-contains
returns-then-contains c =
    let text = c.args.text.now in
    let w : IfOk c.worksheet_answer.result (Worksheets text) = search rules in
    subst (λ b. IfOk c.worksheet_answer.result (λ r. cond b (Worksheets text r) (Checks text r))) (asked c.args.options.now true (search rules)) w

pub returns-else-contains : goal.returns-else-contains
returns-else-contains c =
    let text = c.args.text.now in
    let w : IfOk c.check_answer.result (Checks text) = search rules in
    subst (λ b. IfOk c.check_answer.result (λ r. cond b (Worksheets text r) (Checks text r))) (asked c.args.options.now false (search rules)) w
