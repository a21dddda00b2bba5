-- What the lines of a text have said so far, as the code keeps it. Assumes nothing: these are definitions.
use Rattle.std.specs.Prelude.{◌≡◌, Bool, List, map, Some, None, Ok, Err, Option, Result, vec_items}
use Rattle.std.specs.Option.{option_map}
use Rattle.std.specs.List.{filter_map, flat_map}
use Rattle.text.specs.declared.line_fault.LineFault.{LineFault}
use Rattle.text.specs.declared.line.LineError.{LineError}
use Rattle.text.specs.declared.lines.Lines.{Lines}
use Rattle.text.specs.declared.line.LineError.TheVariants.{Fault}
use Rattle.text.specs.declared.text_error.TextError.{TextError}
use Rattle.text.specs.Entries.{Entry}
use Rattle.text.specs.Format.{head, crossings_in, depot_in, street_in, round_in, part_in, Fails}
use Rattle.text.specs.Lines.{part_entry, FailsLine}

-- a place for what is said once takes the value, or it is a second one
abbrev pub Sets : {A : Type 0} → Option A → A → LineFault → Option A → Result (Unit {0}) LineError → Type 0
Sets None x second new r = (new ≡ Some x) × (r ≡ Ok tt)
Sets (Some y) x second new r = r ≡ Err (Fault second)

-- the code keeps what these entries say
pub record Gathered (alone : Bool) (es : List Entry) (l : Lines) : Type 0 where
  pub alone_is : l.alone ≡ alone
  pub crossings_are : l.crossings ≡ head (filter_map crossings_in es)
  pub depot_is : l.depot ≡ head (filter_map depot_in es)
  pub streets_are : vec_items l.streets ≡ flat_map street_in es
  pub round_is : option_map vec_items l.round ≡ head (filter_map round_in es)
  pub parts_are : map part_entry (vec_items l.parts) ≡ filter_map part_in es

-- a step that leaves what these entries say, or is wrong as they are, unless memory is wanting
abbrev pub Gathers : Bool → Result (List Entry) LineFault → Lines → Result (Unit {0}) LineError → Type 0
Gathers alone (Ok es) l (Ok x) = Gathered alone es l
Gathers alone (Err f) l (Ok x) = ⊥
Gathers alone told l (Err e) = FailsLine e told

-- lines that keep what these entries say, or what is wrong with them, unless memory is wanting
abbrev pub GathersAll : Bool → Result (List Entry) TextError → Result Lines TextError → Type 0
GathersAll alone (Ok es) (Ok l) = Gathered alone es l
GathersAll alone (Err e) (Ok l) = ⊥
GathersAll alone told (Err e) = Fails e told
