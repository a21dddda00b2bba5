-- The step of the proof of `leads_out` that is not found by search.
use Rattle.std.proofs.Common.{refl}
use Rattle.sheet.specs.Numbers.{marks_in}
use Rattle.sheet.proofs.Places.{leads_is}
use Rattle.worksheet.proofs.part.Part.leads_out.Goals as goal

pub returns : goal.returns
returns c = leads_is (marks_in c.args.self.now.marks.now) c.args.street c.args.street c.is_marked.result c.is_marked-2.result c.is_marked.ensures c.is_marked-2.ensures refl
