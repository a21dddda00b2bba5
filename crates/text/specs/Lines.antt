-- Lines of the code, and what they say. Assumes nothing: these are definitions.
use Rattle.std.specs.Prelude.{◌≡◌, ℕ, Ok, Err, Result, vec_items}
use Rattle.text.specs.declared.line_fault.LineFault.{LineFault}
use Rattle.text.specs.declared.line.PartLine.{PartLine}
use Rattle.text.specs.declared.line.Line.{Line}
use Rattle.text.specs.declared.line.Line.TheVariants.{Nothing as NothingLine, Crossings, Depot, Street, Round, Length, Part}
use Rattle.text.specs.declared.line.LineError.{LineError}
use Rattle.text.specs.declared.line.LineError.TheVariants.{Fault, Memory}
use Rattle.text.specs.declared.text_error.TextError.{TextError}
use Rattle.text.specs.declared.text_error.TextError.TheVariants.{Line as LineOfText, Memory as MemoryOfText}
use Rattle.text.specs.Entries.{PartEntry, Entry, Nothing, CrossingsAre, DepotIs, StreetIs, RoundIs, LengthIs, PartIs}

abbrev pub part_entry : PartLine → PartEntry
part_entry p = record { line = p.line; weight = p.weight; crossings = vec_items p.crossings }

abbrev pub entry_of : Line → Entry
entry_of NothingLine = Nothing
entry_of (Crossings n) = CrossingsAre n
entry_of (Depot d) = DepotIs d
entry_of (Street xs) = StreetIs xs
entry_of (Round ls) = RoundIs (vec_items ls)
entry_of Length = LengthIs
entry_of (Part p) = PartIs (part_entry p)

-- a result that is what a line says, seen by view, unless memory is wanting
abbrev pub FailsLine : {B : Type 0} → LineError → Result B LineFault → Type 0
FailsLine Memory said = Unit {0}
FailsLine (Fault f) said = said ≡ Err f

abbrev pub TellsLine : {A B : Type 0} → (A → B) → Result B LineFault → Result A LineError → Type 0
TellsLine view said (Ok x) = said ≡ Ok (view x)
TellsLine view said (Err e) = FailsLine e said

-- a result of a line, as one of the text
abbrev pub result_at : {A : Type 0} → ℕ → Result A LineError → Result A TextError
result_at line (Ok x) = Ok x
result_at line (Err (Fault f)) = Err (LineOfText line f)
result_at line (Err Memory) = Err MemoryOfText
