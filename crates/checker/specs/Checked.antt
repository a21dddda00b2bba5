-- What the checker answers. Assumes nothing: these are definitions.
use Rattle.std.specs.Prelude.{ℕ, cond, codes, bytes_eq, List}
use Rattle.std.specs.List.{list_any}
use Rattle.files.specs.declared.answer.Reply.{Reply}
use Rattle.answers.specs.Answers.{Checks, Worksheets}

-- a worksheet if the options ask for one, and else the checker's word alone
abbrev pub Answers : List (List ℕ) → List ℕ → Reply → Type 0
Answers options text reply = cond (list_any (λ o. bytes_eq o (codes "--worksheet")) options) (Worksheets text reply) (Checks text reply)
