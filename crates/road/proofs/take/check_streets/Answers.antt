-- The steps of the proof of `check_streets` that are not found by search.
use Rattle.std.proofs.Common.{ℕ, ◌<◌, refl, ap, rules, Bool, List, length, ◌/◌, get_or, [], arith}
use Rattle.std.proofs.iter.runs.Made.{chains}
use Rattle.road.specs.declared.refusal.Refusal.TheVariants.{OutOfRange}
use Rattle.road.specs.Roads.{street}
use Rattle.road.specs.Counts.{size}
use Rattle.road.specs.Limits.{Within, within}
use Rattle.road.specs.Numbers.{town_in, street_of}
use Rattle.road.specs.Refusals.{listed}
use Rattle.road.proofs.First.{FirstBroken, broken_ext, says_found}
use Rattle.road.proofs.Limits.{within_true}
use Rattle.road.proofs.Numbers.{size_in, street_chunk}
use Rattle.road.proofs.take.check_streets.Goals as goal

abbrev read : ℕ → List (List ℕ) → ℕ → Bool
read n yss k = within n (street_of (get_or yss k []))

pub returns : goal.returns
returns c =
    let n = c.args.crossings in
    let xs = c.args.numbers.now in
    let yss = c.as_chunks.result.0.now in
    let t = town_in n xs in
    let e = size_in n xs in
    let l = c.as_chunks.ensures.front_len in
    let found : FirstBroken (length yss) (read n yss) c.position.result = search (rules, chains) in
    let broken = broken_ext _ (size t) (read n yss) (λ k. within n (street t k)) _ found (omega arith)
    (λ k h. ap (within n) (street_chunk n xs yss c.as_chunks.ensures.front k)) in
    says_found listed _ _ (λ k. (3, k)) (λ _. (k : ℕ) → k < length xs / 3 → Within n (street t k)) tt OutOfRange _ c.map_or.result broken (search rules) (λ k. refl)
    (λ h k i. within_true n (street t k) (h k (omega arith)))
