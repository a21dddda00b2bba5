-- The step of the proof of `double_lengths` that is not found by search.
use Rattle.std.proofs.Common.{◌≡◌, ℕ, ◌*◌, ◌<◌, ◌≤◌, get_or, pos, ap, arith, rules}
use Rattle.road.specs.Model.{model}
use Rattle.road.proofs.Models.{street_past}
use Rattle.join.specs.Certified.{double}
use Rattle.road.proofs.FromFn.{holds_each}
use Rattle.join.proofs.Writing.{number_each, whole_each}
use Rattle.join.proofs.entry.double_lengths.Goals as goal

pub returns : goal.returns
returns c =
    let t = c.args.town.now in
    let f = double (model t) in
    let i = c.from_fn.ensures.items in
    let each : (k : ℕ) → k < 300 → get_or c.from_fn.result k (pos 0) ≡ pos (f k) = λ k h. holds_each (λ k. pos (f k)) i (λ k y q l e. search rules) k (pos 0) h in
    let past : (k : ℕ) → 300 ≤ k → f k ≡ 0 = λ k le. ap (λ s. 2 * s.long) (street_past t k (omega (arith, t.few))) in
    record { long = i.long; whole = whole_each c.from_fn.result f 300 i.long each past; is = number_each c.from_fn.result f 300 i.long each past }
