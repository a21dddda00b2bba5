-- How what is read is named. Assumes nothing: these are definitions.
use Rattle.std.specs.Prelude.{ℕ, List, cond, map, codes, chars, encode_utf8_all}
use Rattle.std.specs.Char.{is_control}
use Rattle.files.specs.declared.source.Source.{Source}
use Rattle.files.specs.declared.source.Source.TheVariants.{StandardInput, File}

-- a question mark for a control character, of which a line break is one
abbrev pub shown : ℕ → ℕ
shown c = cond (is_control c) 63 c

-- a text in one line
abbrev pub one_line : List ℕ → List ℕ
one_line x = encode_utf8_all (map shown (chars x))

-- the argument that names it
abbrev pub name_of : Source → List ℕ
name_of StandardInput = codes "-"
name_of (File x) = x.now

-- its name as it is printed
abbrev pub shown_name : Source → List ℕ
shown_name StandardInput = codes "standard input"
shown_name (File x) = one_line x.now
