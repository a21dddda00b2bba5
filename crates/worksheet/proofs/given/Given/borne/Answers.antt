-- The step of the proof of `borne` that is not found by search.
use Rattle.std.proofs.Common.{rules, tests}
use Rattle.std.proofs.lemmas.Iterator.{items_from_collect, YieldsList-from_slice, YieldsList-from_map}
use Rattle.std.proofs.lemmas.Iterator.Consumers.{YieldsList-at, YieldsList-from_filter}
use Rattle.sheet.specs.Sheet.{leads_out}
use Rattle.worksheet.specs.declared.part.Part.{Part}
use Rattle.worksheet.specs.Model.{part_of}
use Rattle.worksheet.proofs.Sums.{borne_by}
use Rattle.worksheet.proofs.given.Given.borne.Goals as goal

pub returns : goal.returns
returns c = rw (borne_by c.args.self.now.parts.now c.args.street) (items_from_collect c.collect.result c.collect.ensures.ran
    (YieldsList-from_map _ (λ (p : Part). p.weight)
    (YieldsList-at c.map.ensures.source (YieldsList-from_filter _ (λ (p : Part). leads_out (part_of p).marks c.args.street) (YieldsList-at c.filter.ensures.source (YieldsList-from_slice c.args.self.now.parts.now c.iter.ensures.rest)) c.filter.ensures.closure (λ x b q k. search (rules, tests))))
    c.map.ensures.closure (λ x r q k. search rules)))
