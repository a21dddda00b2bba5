-- The step of the proof of `check_loads` that is not found by search.
use Rattle.std.proofs.Common.{ℕ, refl, sym, rules, tests, ◌*◌, Bool, leb}
use Rattle.road.specs.Roads.{street}
use Rattle.road.proofs.First.{broken_ext, says_found}
use Rattle.road.proofs.Models.{size_model}
use Rattle.road.proofs.Ranges.{range_broken}
use Rattle.sheet.specs.declared.parts.Parts.{Parts}
use Rattle.sheet.specs.declared.word.SheetFault.TheVariants.{Street as AtStreet}
use Rattle.sheet.specs.Sheet.{load}
use Rattle.sheet.specs.Model.{parts_of, town_of}
use Rattle.sheet.proofs.parts.Parts.check_loads.Goals as goal

abbrev bears : Parts → ℕ → Bool
bears p k = leb (load (parts_of p) (street (town_of p) k)) (2 * (street (town_of p) k).long)

pub returns : goal.returns
returns c =
    let p = c.args.self.now in
    let found = range_broken (bears p) _ c.find.result c.find.ensures.ran (λ x q k. search (rules, tests)) (λ x q k. search (rules, tests)) in
    says_found (λ f. f) _ (bears p) AtStreet (λ _. Unit {0}) tt AtStreet _ c.map_or.result (broken_ext _ _ (bears p) (bears p) _ found (sym (size_model p.town.now)) (λ k h. refl)) (search rules)
    (λ k. refl) (λ h. tt)
