-- The parts that values of the code stand for. Assumes nothing: these are definitions.
use Rattle.std.specs.Prelude.{List, map}
use Rattle.worksheet.specs.declared.part.Part.{Part}
use Rattle.sheet.specs.Sheet as sheets
use Rattle.sheet.specs.Numbers.{marks_in}

abbrev pub part_of : Part → sheets.Part
part_of p = record { marks = marks_in p.marks.now; weight = p.weight }

abbrev pub parts_of : List Part → List sheets.Part
parts_of ps = map part_of ps
