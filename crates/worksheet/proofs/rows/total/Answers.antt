-- The step of the proof of `total` that is not found by search.
use Rattle.std.proofs.Common.{◌≡◌, sum, rules, arith}
use Rattle.std.proofs.iter.runs.Made.{chains}
use Rattle.worksheet.proofs.Sums.{sum_most}
use Rattle.worksheet.proofs.rows.total.Goals as goal

pub returns-clause-most : goal.returns-clause-most
returns-clause-most c =
    let is : c.sum.result ≡ sum c.args.terms.now = search (rules, chains) in
    omega (arith, is, sum_most c.args.terms.now c.type_inv.terms)
