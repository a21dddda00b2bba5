-- The checker's word as text. Assumes nothing: these are definitions.
use Rattle.std.specs.Prelude.{ℕ, List, ◌++◌, codes, decimal}
use Rattle.road.specs.declared.fault.Fault.TheVariants.{Leg as AtLeg, Home, Street as LeftOut}
use Rattle.sheet.specs.declared.word.SheetFault.TheVariants.{Part as AtPart, Street as AtStreet}
use Rattle.sheet.specs.declared.word.Word.{Word}
use Rattle.sheet.specs.declared.word.Word.TheVariants.{NoRound, NoSheet, Shortest, Apart}

abbrev pub shortest_text : ℕ → List ℕ
shortest_text n = codes "shortest " ++ decimal n

abbrev pub said_text : Word → List ℕ
said_text (Shortest n) = shortest_text n
said_text (Apart n m) = codes "apart " ++ (decimal n ++ (codes " and " ++ decimal m))
said_text (NoRound (AtLeg i)) = codes "no round at leg " ++ decimal i
said_text (NoRound Home) = codes "no round home"
said_text (NoRound (LeftOut k)) = codes "no round street " ++ decimal k
said_text (NoSheet (AtPart i)) = codes "no sheet at part " ++ decimal i
said_text (NoSheet (AtStreet k)) = codes "no sheet at street " ++ decimal k
