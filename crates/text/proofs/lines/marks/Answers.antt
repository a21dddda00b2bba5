-- The marks are those of the crossings from 0 on.
use Rattle.std.proofs.Common.{◌==◌, Ok, ap, sym, rules, arith}
use Rattle.std.specs.List.{list_any}
use Rattle.road.specs.Counts.{bit}
use Rattle.std.proofs.lemmas.Iterator.{items_from_collect, YieldsList-from_map, YieldsList-from_range}
use Rattle.text.proofs.lines.marks.Goals as goal

pub returns : goal.returns
returns c =
    let n = c.args.count in
    let vs = c.args.crossings.now in
    ap Ok (sym (rw c.in_ok-collect.was at (items_from_collect c.collect.result c.collect.ensures.ran
    (YieldsList-from_map _ (λ v. bit (list_any (λ w. w == v) vs)) (YieldsList-from_range 0 n n c.map.ensures.source (omega arith)) c.map.ensures.closure (λ x r q k. search rules)))))
