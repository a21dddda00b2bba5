-- The step of the proof of `level` that is not found by search.
use Rattle.std.proofs.Common.{◌≡◌, length, refl, rules}
use Rattle.join.proofs.Beginning.{begin_pass, begin_after, all_are}
use Rattle.join.proofs.prices.Prices.level.Goals as goal

pub returns : goal.returns
returns c =
    let q = c.args.self.now in
    let zs = c.all.result in
    let long : length zs ≡ 100 = search rules in
    let are = all_are q zs long c.all.ensures in
    record { pass = begin_pass q c.requires _ refl are; after = begin_after q _ refl are }
