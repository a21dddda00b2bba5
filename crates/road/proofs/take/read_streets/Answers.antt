-- The steps of the proof of `read_streets` that are not found by search.
use Rattle.std.proofs.Common.{◌≡◌, sym, ◌∙◌, arith}
use Rattle.std.proofs.lemmas.Grind.{common_steps}
use Rattle.road.specs.Roads.{street}
use Rattle.road.specs.Numbers.{town_in}
use Rattle.road.proofs.Numbers.{streets_read, street_chunk}
use Rattle.road.proofs.take.read_streets.Goals as goal

pub loop-k-preserved : goal.loop-k-preserved
loop-k-preserved c =
    let xs = c.args.numbers.now in
    let k = c.loop-k.k in
    let read : c.from.result ≡ street (town_in 0 xs) k = c.from.ensures ∙ sym (street_chunk 0 xs c.as_chunks.result.0.now c.as_chunks.ensures.front k) in
    grind (arith, common_steps, read, c.loop-k.invariant.1)

pub returns-clause-streets : goal.returns-clause-streets
returns-clause-streets c = streets_read 0 c.args.numbers.now c.loop-k.streets (omega arith) (λ k h. c.loop-k.invariant.1 k (omega arith))
