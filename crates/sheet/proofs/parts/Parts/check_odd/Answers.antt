-- The step of the proof of `check_odd` that is not found by search.
use Rattle.std.proofs.Common.{ℕ, refl, rules, tests, ◌%◌, Bool, eqb, get_or}
use Rattle.road.proofs.First.{broken_ext, says_found}
use Rattle.road.proofs.Ranges.{range_broken}
use Rattle.sheet.specs.declared.parts.Parts.{Parts}
use Rattle.sheet.specs.declared.word.SheetFault.TheVariants.{Part as AtPart}
use Rattle.sheet.specs.Sheet.{no_part, ways_out}
use Rattle.sheet.specs.Model.{parts_of, town_of}
use Rattle.sheet.proofs.parts.Parts.check_odd.Goals as goal

abbrev odd : Parts → ℕ → Bool
odd p i = eqb (ways_out (get_or (parts_of p) i no_part).marks (town_of p).streets % 2) 1

pub returns : goal.returns
returns c =
    let p = c.args.self.now in
    let found = range_broken (odd p) _ c.find.result c.find.ensures.ran (λ x q k. search (rules, tests)) (λ x q k. search (rules, tests)) in
    says_found (λ f. f) _ (odd p) AtPart (λ _. Unit {0}) tt AtPart _ c.map_or.result (broken_ext _ _ (odd p) (odd p) _ found c.count.ensures (λ k h. refl)) (search rules) (λ k. refl) (λ h. tt)
