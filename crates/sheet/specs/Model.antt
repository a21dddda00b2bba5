-- The sheet that a value of the code stands for. Assumes nothing: these are definitions.
use Rattle.std.specs.Prelude.{List}
use Rattle.road.specs.Roads as roads
use Rattle.road.specs.Model.{model}
use Rattle.sheet.specs.declared.parts.Parts.{Parts}
use Rattle.sheet.specs.Sheet.{Part}
use Rattle.sheet.specs.Numbers.{sheet_in}

abbrev pub parts_of : Parts → List Part
parts_of p = sheet_in p.town.now.crossings p.numbers.now

abbrev pub town_of : Parts → roads.Town
town_of p = model p.town.now
