-- The step of the proof of `no_ways` that is not found by search.
use Rattle.std.proofs.Common.{sym, subst}
use Rattle.std.specs.List.{each_same}
use Rattle.join.specs.Amounts.{AllEmpty}
use Rattle.join.proofs.StreetSets.{empty_rows}
use Rattle.join.proofs.sets.no_ways.Goals as goal

pub returns : goal.returns
returns c = subst (λ rows. AllEmpty rows 100) (sym (c.in_ok-vec.ensures.items_if_clones_equal (λ y h. each_same _ y h.whole))) (empty_rows 100 300)
