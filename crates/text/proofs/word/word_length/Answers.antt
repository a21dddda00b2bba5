-- The first byte that ends a word, or the end of the text.
use Rattle.std.proofs.Common.{◌∙◌, rules, tests}
use Rattle.std.proofs.lemmas.Iterator.Adapters.{YieldsList-from_bytes}
use Rattle.std.proofs.lemmas.Iterator.Search.{position_from_yields_List}
use Rattle.text.specs.Words.{ends_word}
use Rattle.text.proofs.Cutting.{position_else}
use Rattle.text.proofs.word.word_length.Goals as goal

pub returns : goal.returns
returns c =
    let text = c.args.text.now in
    c.unwrap_or.ensures ∙ position_else ends_word text c.position.result (position_from_yields_List ends_word _ _ c.position.result c.position.ensures.ran (YieldsList-from_bytes text cc) (λ x r q k. search (rules, tests)))
