-- The step of the proof of `empty` that is not found by search.
use Rattle.std.proofs.Common.{arith}
use Rattle.std.proofs.lemmas.List.{get_or-replicate}
use Rattle.road.specs.Model.{model}
use Rattle.road.proofs.Models.{size_model}
use Rattle.pairs.proofs.Incidences.{listed_none}
use Rattle.pairs.proofs.lists.StreetLists.empty.Goals as goal

pub returns : goal.returns
returns c =
    let t = c.args.town.now in listed_none (model t) t.count _ (size_model t) (λ v h. get_or-replicate 100 v t.count 0 (omega (arith, t.most)))
