-- What the loop of `shift_along` keeps.
use Rattle.std.proofs.Common.{◌≡◌, length, take}
use Rattle.join.specs.Amounts.{number, Whole, shifted}
use Rattle.join.specs.Odd.{streets_of}
use Rattle.join.proofs.shift.shift_along.Given as goal

abbrev pub invariant-loop-leg : goal.invariant-loop-leg
invariant-loop-leg l =
    (length l.amounts ≡ 300) × Whole l.amounts × (number l.amounts ≡ shifted (streets_of (take l.leg-index l.legs)) l.by (number l.initial.amounts))
