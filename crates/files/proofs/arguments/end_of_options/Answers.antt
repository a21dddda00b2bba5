-- The first argument that is --.
use Rattle.std.proofs.Common.{string_bytes, rules, tests}
use Rattle.std.proofs.lemmas.Iterator.{YieldsList-from_slice, YieldsList-from_map_by}
use Rattle.std.proofs.lemmas.Iterator.Consumers.{YieldsList-at}
use Rattle.std.proofs.lemmas.Iterator.Search.{position_from_yields_List}
use Rattle.files.specs.Arguments.{is_end}
use Rattle.files.proofs.arguments.end_of_options.Goals as goal

pub returns : goal.returns
returns c =
    position_from_yields_List is_end _ _ c.position.result c.position.ensures.ran
    (YieldsList-from_map_by _ (λ r. r.now) string_bytes (YieldsList-at c.map.ensures.source (YieldsList-from_slice c.args.args.now c.iter.ensures.rest)) c.map.ensures.closure (λ x r q k. search (rules, tests)))
    (λ x b q k. search (rules, tests))
