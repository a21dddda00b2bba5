-- The step of the proof of `weights` that is not found by search.
use Rattle.std.proofs.Common.{rules}
use Rattle.worksheet.specs.Model.{parts_of}
use Rattle.worksheet.proofs.Sums.{weights_is}
use Rattle.worksheet.proofs.given.Given.weights.Goals as goal

pub returns : goal.returns
returns c = rw (weights_is (parts_of c.args.self.now.parts.now)) (search rules)
