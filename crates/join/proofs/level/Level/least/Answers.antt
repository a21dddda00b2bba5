-- The steps of the proof of `least` that are not found by search.
use Rattle.std.proofs.Common.{◌≡◌, ℕ, ◌+◌, ◌<◌, ◌≤◌, true, ⊎_elim, subst, sym, arith, rules}
use borrow.Author.Tests.{tests}
use Rattle.std.proofs.lemmas.Bool.{cases_eq}
use Rattle.std.proofs.lemmas.Int.{ints}
use Rattle.road.specs.Counts.{Set}
use Rattle.join.specs.Problems.{reached_in}
use Rattle.join.specs.Turns.{potential_at}
use Rattle.road.proofs.Ranges.{fold_callable, fold_held}
use Rattle.join.proofs.StreetSets.{marked_below}
use Rattle.join.proofs.level.Level.least.Goals as goal

-- b is the lowest crossing of In below k
abbrev LowestBelow : Set → (ℕ → ℕ) → ℕ → ℕ → Type 0
LowestBelow In g k b = (b < 100) × (In b ≡ true) × ((v : ℕ) → v < k → In v ≡ true → g b ≤ g v)

-- one crossing more
one_more : (In : Set) (g : ℕ → ℕ) (k a b : ℕ) → LowestBelow In g k a → b < 100 → In b ≡ true → g b ≤ g a → (In k ≡ true → g b ≤ g k) → LowestBelow In g (k + 1) b
one_more In g k a b i low met le here = (
  low,
  met,
  λ v l m. ⊎_elim (λ q. subst (λ u. g b ≤ g u) (sym q) (here (subst (λ u. In u ≡ true) q m))) (λ ne. omega (arith, i.2 v (omega arith) m)) (cases_eq v k),
)

pub fold-requires-clause-callable : goal.fold-requires-clause-callable
fold-requires-clause-callable c =
    let In = reached_in c.args.problem.now in
    let g = potential_at c.args.self.now in
    let t = c.args.problem.now.streets.town.now in
    fold_callable 100 (LowestBelow In g) (omega (arith, t.home, t.most), c.args.problem.now.home, λ v l. absurd (omega arith))
    (λ k a b q h i e. (search rules, one_more In g k a b i (search (rules, tests)) (search (rules, tests)) (search (rules, tests, ints)) (λ m. search (rules, tests, ints)))) (λ k a h i. search rules)

pub returns : goal.returns
returns c =
    let In = reached_in c.args.problem.now in
    let g = potential_at c.args.self.now in
    let t = c.args.problem.now.streets.town.now in
    let h = fold_held 100 (LowestBelow In g) (omega (arith, t.home, t.most), c.args.problem.now.home, λ v l. absurd (omega arith))
    (λ k a b q h i e. (search rules, one_more In g k a b i (search (rules, tests)) (search (rules, tests)) (search (rules, tests, ints)) (λ m. search (rules, tests, ints)))) c.fold.result c.fold.ensures.ran in
    record { below = h.0; lowest = record { met = h.1; least = λ u m. h.2 u (omega (arith, c.args.problem.now.places, marked_below c.args.problem.now.reached.now u m)) m } }
