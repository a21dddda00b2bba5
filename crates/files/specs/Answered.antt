-- What it means that texts are answered, and how that is printed. Assumes nothing: these are definitions.
use Rattle.std.specs.Prelude.{◌≡◌, ◌⊎◌, ℕ, List, ◌++◌, codes, All, Option, Some, None}
use Rattle.files.specs.declared.answer.Reply.{Reply}
use Rattle.files.specs.declared.source.Source.{Source}
use Rattle.files.specs.Arguments.{options_of, names_of, first_unknown}
use Rattle.files.specs.Names.{shown_name}

-- what is named so holds a text, and there is an answer to it
abbrev pub Answered : (List ℕ → List ℕ → Type 0) → (List ℕ → Reply → Type 0) → List ℕ → Type 0
Answered holds answers name = (text : List ℕ) × (r : Reply) × holds name text × answers text r

-- the arguments ask for help, or name texts that are all answered
abbrev pub AllAnswered : (List ℕ → List ℕ → Type 0) → (List (List ℕ) → List ℕ → Reply → Type 0) → List (List ℕ) → List (List ℕ) → Type 0
AllAnswered holds answers known args =
    (first_unknown known (options_of args) ≡ Some (codes "--help"))
    ⊎ ((first_unknown known (options_of args) ≡ None) × All (Answered holds (answers (options_of args))) (names_of args))

-- a text below its name, as a comment
abbrev pub headed : Option Source → List ℕ → List ℕ
headed None text = text
headed (Some s) text = codes "# " ++ (shown_name s ++ codes "\n") ++ text

-- how a program is called, and what it does
abbrev pub help : List ℕ → List ℕ → List ℕ
help call about = codes "usage: " ++ (call ++ codes "\n\n") ++ about
