-- What is proved of names that are printed. Assumes nothing: these are definitions.
use Rattle.std.specs.Prelude.{◌≡◌, ◌≢◌, ℕ, ◌<◌, ◌≤◌, List, length, slice_index, IsUtf8}
use Rattle.std.specs.Char.{is_control}
use Rattle.std.specs.Str.{NoCharPasses}
use Rattle.files.specs.Names.{one_line}

-- no byte is a control character of ASCII, as a line break is
abbrev pub HasNoControl : List ℕ → Type 0
HasNoControl x = (i : ℕ) → i < length x → (32 ≤ slice_index x i) × (slice_index x i ≢ 127)

abbrev pub OneLine : Type 0
OneLine = (x : List ℕ) → IsUtf8 x → HasNoControl (one_line x) × (NoCharPasses is_control x → one_line x ≡ x)
