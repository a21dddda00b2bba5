-- The step of the proof of `check_reach` that is not found by search.
use Rattle.std.proofs.Common.{◌≡◌, ℕ, ◌<◌, true, refl, sym, rules, tests, Bool}
use Rattle.road.specs.declared.refusal.Refusal.TheVariants.{Unreached}
use Rattle.road.specs.Roads.{Town}
use Rattle.road.specs.Counts.{size, one}
use Rattle.road.specs.Reach.{reached}
use Rattle.road.specs.Refusals.{listed}
use Rattle.road.specs.Model.{model}
use Rattle.road.proofs.First.{broken_ext, says_found}
use Rattle.road.proofs.Models.{size_model}
use Rattle.road.proofs.Ranges.{range_broken}
use Rattle.road.proofs.town.Town.check_reach.Goals as goal

abbrev kept : Town → ℕ → ℕ → Bool
kept t depot k = reached t depot (one t k)

pub returns : goal.returns
returns c =
    let t = model c.args.self.now in
    let r = kept t c.args.self.now.depot in
    let found = range_broken r _ c.find.result c.find.ensures.ran (λ x q k. search (rules, tests)) (λ x q k. search (rules, tests)) in
    says_found listed _ r (λ k. (5, k)) (λ _. (k : ℕ) → k < size t → r k ≡ true) tt Unreached _ c.map_or.result (broken_ext _ _ r r _ found (sym (size_model c.args.self.now)) (λ k h. refl)) (search rules)
    (λ k. refl) (λ h. h)
