-- The step of the proof of `read` that is not found by search.
use Rattle.std.proofs.Common.{rules, map-id}
use Rattle.std.proofs.lemmas.Iterator.{YieldsList-from_map_by}
use Rattle.std.proofs.lemmas.Iterator.Consumers.{map_from_collect, YieldsList-at}
use Rattle.worksheet.specs.Model.{part_of}
use Rattle.worksheet.proofs.Parts.{chunks_yield}
use Rattle.worksheet.proofs.part.Part.read.Goals as goal

pub returns : goal.returns
returns c =
    let parts = chunks_yield c.args.town.now.crossings c.args.numbers.now c.chunks_exact.ensures.rest c.chunks_exact.ensures.size in
    simp map-id at (map_from_collect c.collect.result c.collect.ensures.ran (YieldsList-from_map_by _ part_of (λ p. p) (YieldsList-at c.map.ensures.source parts) c.map.ensures.closure (λ x r q k. search rules)))
