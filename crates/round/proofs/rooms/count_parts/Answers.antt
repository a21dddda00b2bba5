-- The steps of the proof of `count_parts` that are not found by search.
use Rattle.std.proofs.Common.{◌≡◌, Bool, true, false, not, ◌∙◌, rules}
use borrow.Author.Tests.{tests}
use Rattle.std.proofs.lemmas.Iterator.{YieldsList-from_slice}
use Rattle.std.proofs.lemmas.Iterator.Consumers.{YieldsList-at, YieldsList-from_filter, count_from_yields_List}
use Rattle.join.specs.declared.turn.Stage.{Stage}
use Rattle.road.specs.Model.{marked}
use Rattle.round.proofs.Rooming.{parts_counted}
use Rattle.round.proofs.rooms.count_parts.Goals as goal

turned : (b r : Bool) → b ≡ not r → r ≡ not b
turned b true e = cc
turned b false e = cc

pub returns : goal.returns
returns c =
    count_from_yields_List c.filter.result c.count.result c.count.ensures.ran
    (YieldsList-from_filter _ (λ (s : Stage). not (marked s.marks c.args.town.now.depot)) (YieldsList-at c.filter.ensures.source (YieldsList-from_slice c.args.stages.now c.iter.ensures.rest)) c.filter.ensures.closure
    (λ x r q k. search (rules, tests, turned)))
    ∙ parts_counted c.args.town.now.crossings c.args.town.now.depot c.args.stages.now
