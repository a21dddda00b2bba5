-- The step of the proof of `bare_stars` that is not found by search.
use Rattle.std.proofs.Common.{[], vec_items, ◌∙◌, sym, arith, rules}
use borrow.Author.Tests.{tests}
use Rattle.std.proofs.lemmas.Result.{IfOk-weaker}
use Rattle.std.specs.List.{range_with_len}
use Rattle.std.proofs.lemmas.Iterator.{YieldsList-from_map_by, YieldsList-from_range}
use Rattle.std.proofs.lemmas.Iterator.Consumers.{map_from_collect}
use Rattle.std.proofs.lemmas.List.FromFn.{length-range_with_len}
use Rattle.std.proofs.lemmas.Simd.{splat_is_map}
use Rattle.road.specs.Model.{model}
use Rattle.join.proofs.Gathering.{stars_none}
use Rattle.join.proofs.stars.bare_stars.Goals as goal

pub returns : goal.returns
returns c =
    let n = c.args.town.now.crossings in
    let bare = YieldsList-from_map_by _ vec_items (λ _. []) (YieldsList-from_range 0 n n c.map.ensures.source (omega arith)) c.map.ensures.closure (λ x r q k. search (rules, tests)) in
    IfOk-weaker c.collect.result _ _ (λ rows e. stars_none (model c.args.town.now) n (vec_items rows) (e ∙ sym (splat_is_map (range_with_len 0 n) n [] (length-range_with_len 0 n))))
    (map_from_collect c.collect.result c.collect.ensures.ran bare)
