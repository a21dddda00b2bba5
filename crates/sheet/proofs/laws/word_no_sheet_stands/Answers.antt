-- The proof of the theorem that `word_no_sheet_stands` stands for.
use Rattle.sheet.proofs.laws.word_no_sheet_stands.Goals as goal
use Rattle.sheet.proofs.Judged.{word_no_sheet}

pub returns : goal.returns
returns c = word_no_sheet
