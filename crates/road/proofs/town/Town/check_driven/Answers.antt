-- The step of the proof of `check_driven` that is not found by search.
use Rattle.std.proofs.Common.{ℕ, refl, sym, rules, tests, not, ◌||◌, Bool, List}
use Rattle.road.specs.declared.fault.Fault.TheVariants.{Street as LeftOut}
use Rattle.road.specs.Model.{marked}
use Rattle.road.proofs.First.{broken_ext, says_found}
use Rattle.road.proofs.Models.{size_model}
use Rattle.road.proofs.Ranges.{range_broken}
use Rattle.road.proofs.town.Town.check_driven.Goals as goal

abbrev kept : List Bool → List Bool → ℕ → Bool
kept must done k = not (marked must k) || marked done k

pub returns : goal.returns
returns c =
    let r = kept c.args.required.now c.args.marks.now in
    let found = range_broken r _ c.find.result c.find.ensures.ran (λ x q k. search (rules, tests)) (λ x q k. search (rules, tests)) in
    says_found (λ f. f) _ r LeftOut (λ _. Unit {0}) tt LeftOut _ c.map_or.result (broken_ext _ _ r r _ found (sym (size_model c.args.self.now)) (λ k h. refl)) (search rules) (λ k. refl) (λ h. tt)
