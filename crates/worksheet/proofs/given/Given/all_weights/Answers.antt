-- The step of the proof of `all_weights` that is not found by search.
use Rattle.std.proofs.Common.{rules}
use Rattle.std.proofs.lemmas.Simd.{map-map}
use Rattle.std.proofs.iter.runs.Made.{chains}
use Rattle.sheet.specs.Sheet.{Part}
use Rattle.worksheet.specs.Model.{part_of}
use Rattle.worksheet.proofs.given.Given.all_weights.Goals as goal

pub returns : goal.returns
returns c = rw (map-map (λ (p : Part). p.weight) part_of c.args.self.now.parts.now) (search (rules, chains))
