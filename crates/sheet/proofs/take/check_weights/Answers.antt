-- The step of the proof of `check_weights` that is not found by search.
use Rattle.std.proofs.Common.{ℕ, ◌+◌, ◌*◌, ◌/◌, ◌<◌, ◌≤◌, refl, rules, tests, leb, length, get_or, arith}
use Rattle.std.proofs.lemmas.Bool.{leb-true}
use Rattle.road.specs.declared.refusal.Refusal.TheVariants.{Parts}
use Rattle.road.specs.Refusals.{listed}
use Rattle.road.proofs.First.{says_found}
use Rattle.sheet.proofs.Chunks.{chunk_broken}
use Rattle.sheet.proofs.take.check_weights.Goals as goal

pub returns : goal.returns
returns c =
    let n = c.args.town.now.crossings in
    let xs = c.args.numbers.now in
    let found = chunk_broken (1 + n) xs (λ w. leb w 10000000) c.position.result (omega arith) c.chunks_exact.ensures.rest c.chunks_exact.ensures.size c.chunks_exact.ensures.runs c.position.ensures.runs
    (λ x b q k. search (rules, tests)) in
    says_found listed _ _ (λ i. (8, i)) (λ _. (i : ℕ) → i < length xs / (1 + n) → get_or xs (i * (1 + n)) 0 ≤ 10000000) tt Parts _ c.map_or.result found (search rules) (λ k. refl)
    (λ h i l. leb-true (get_or xs (i * (1 + n)) 0) 10000000 (h i l))
