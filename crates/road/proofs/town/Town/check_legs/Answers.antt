-- The steps of the proof of `check_legs` that are not found by search.
use Rattle.std.proofs.Common.{ℕ, refl, rules, ◌*◌, Bool, List, ltb, get_or, length}
use Rattle.std.proofs.iter.runs.Made.{chains}
use Rattle.road.specs.declared.refusal.Refusal.TheVariants.{NoStreet}
use Rattle.road.specs.Roads.{Town}
use Rattle.road.specs.Counts.{size}
use Rattle.road.specs.Refusals.{listed}
use Rattle.road.specs.Model.{model}
use Rattle.road.proofs.First.{FirstBroken, says_found}
use Rattle.road.proofs.town.Town.check_legs.Goals as goal

abbrev kept : Town → List ℕ → ℕ → Bool
kept t xs i = ltb (get_or xs i 0) (2 * size t)

pub returns : goal.returns
returns c =
    let found : FirstBroken (length c.args.legs.now) (kept (model c.args.self.now) c.args.legs.now) c.position.result = search (rules, chains) in
    says_found listed _ _ (λ i. (7, i)) (λ _. Unit {0}) tt NoStreet _ c.map_or.result found (search rules) (λ k. refl) (λ h. tt)
