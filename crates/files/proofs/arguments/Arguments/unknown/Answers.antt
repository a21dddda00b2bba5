-- The first of the options that is not among the known ones.
use Rattle.std.proofs.Common.{◌∙◌, not, bytes_eq, rules, tests}
use Rattle.std.specs.List.{list_any}
use Rattle.std.proofs.lemmas.Iterator.{YieldsList-from_slice}
use Rattle.std.proofs.lemmas.Iterator.Consumers.{YieldsList-from_copied, YieldsList-at}
use Rattle.std.proofs.lemmas.Iterator.Search.{find_from_yields_List}
use Rattle.files.proofs.Lookups.{found}
use Rattle.files.proofs.arguments.Arguments.unknown.Goals as goal

pub returns : goal.returns
returns c =
    let options = c.args.self.now.options.items in
    found c.args.known.now options c.find.result
    (find_from_yields_List (λ o. not (list_any (λ k. bytes_eq k.now o.now) c.args.known.now)) _ _ c.find.result c.find.ensures.ran
    (YieldsList-from_copied (YieldsList-at c.copied.ensures.source (YieldsList-from_slice options (c.iter.ensures.rest ∙ c.deref.ensures.value))))
    (λ x b q k. search (rules, tests)))
