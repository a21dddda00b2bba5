-- All but the first.
use Rattle.std.proofs.Common.{◌≡◌, IfOk, drop, refl, rules}
use Rattle.std.specs.Vec.Iter.{into_iter_items}
use Rattle.std.proofs.lemmas.Iterator.{items_from_collect}
use Rattle.std.proofs.lemmas.Iterator.Adapters.{YieldsList-from_vec, YieldsList-from_skip}
use Rattle.std.proofs.lemmas.Iterator.Consumers.{YieldsList-at}
use Rattle.files.proofs.entry.after_program.Goals as goal

pub returns-in_ok-collect-in-Ok : goal.returns-in_ok-collect-in-Ok
returns-in_ok-collect-in-Ok c =
    let h : IfOk c.collect.result (λ w. w.items ≡ drop 1 (into_iter_items c.in-Ok.args)) =
    items_from_collect _ c.collect.ensures.ran (YieldsList-from_skip 1 (YieldsList-at c.skip.ensures.source (YieldsList-from_vec _ refl (search rules))) c.skip.ensures.count) in
    search rules
