-- The steps of the proof of `round_length` that are not found by search.
use Rattle.std.proofs.Common.{◌≡◌, pos, vec_items, ap, ◌∙◌, arith, w64, SFits, rules}
use Rattle.std.proofs.lemmas.Int.{to_z-of_z}
use Rattle.std.proofs.lemmas.List.{get_or_read}
use Rattle.join.specs.Amounts.{amount}
use Rattle.join.specs.Drives.{no_drives}
use Rattle.join.specs.Extra.{extra_length}
use Rattle.join.specs.Laws.{town_of, depot_of, prices_of}
use Rattle.pairs.specs.Pairings.{depot_extra}
use Rattle.round.proofs.Planning.{extra_most, depot_half}
use Rattle.round.proofs.write.round_length.Goals as goal

-- the price in metres
half : (c : goal.After-metres) → c.metres.result ≡ extra_length (town_of c.args.least.now) (depot_extra c.args.least.now)
half c =
    let s = c.args.least.now in
    let t = s.town.now.town in
    let d = c.index.result.now in
    let here = get_or_read (vec_items s.extra) (depot_of s) d (omega (arith, t.home, t.most, s.rows)) c.index.ensures no_drives in
    let f : SFits w64 d.price = search rules in
    c.metres.ensures (prices_of s (depot_of s)) (to_z-of_z w64 d.price f ∙ d.whole ∙ ap (λ x. pos (amount x.price)) here) ∙ depot_half s

pub overflow_add-result : goal.overflow_add-result
overflow_add-result c =
    let s = c.args.least.now in
    omega (arith, half c, extra_most (town_of s) (depot_extra s), c.all_streets.ensures.is, c.all_streets.ensures.most)

pub returns : goal.returns
returns c = omega (arith, half c, c.all_streets.ensures.is)
