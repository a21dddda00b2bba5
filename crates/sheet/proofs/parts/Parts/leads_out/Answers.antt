-- The steps of the proof of `leads_out` that are not found by search.
use Rattle.std.proofs.Common.{get_or}
use Rattle.road.specs.Roads.{street}
use Rattle.sheet.specs.Sheet.{no_part}
use Rattle.sheet.specs.Model.{parts_of, town_of}
use Rattle.sheet.proofs.Places.{leads_is}
use Rattle.sheet.proofs.parts.Parts.leads_out.Goals as goal

pub returns : goal.returns
returns c =
    let p = c.args.self.now in
    leads_is (get_or (parts_of p) c.args.i no_part).marks c.street-street.result (street (town_of p) c.args.k) c.is_marked.result c.is_marked-2.result
    c.is_marked.ensures c.is_marked-2.ensures c.street-street.ensures.is
