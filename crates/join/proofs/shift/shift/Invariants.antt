-- What the loop of `shift` keeps.
use Rattle.std.proofs.Common.{◌≡◌, length}
use Rattle.road.specs.Model.{marked}
use Rattle.join.specs.Amounts.{number, shifted}
use Rattle.join.specs.Written.{Upto}
use Rattle.join.proofs.shift.shift.Given as goal

abbrev pub invariant-loop-k : goal.invariant-loop-k
invariant-loop-k g l =
    (length l.amounts ≡ g.row.N) × Upto l.amounts (shifted (marked l.places) l.by (number l.initial.amounts)) (number l.initial.amounts) l.k
