-- The steps of the proof of `shortest_on` that are not found by search.
use Rattle.std.proofs.Common.{◌≡◌, ℕ, ◌<◌, true, false, Option, ℤ, Some, None, MatchOption, IsSomeAnd, sym, refl, ap, ◌∙◌, subst, rules}
use borrow.Author.Tests.{tests}
use Rattle.std.proofs.iter.runs.Sources.{ranges}
use Rattle.std.specs.Iterator.Adapters.{rev_source}
use Rattle.road.specs.Counts.{cut}
use Rattle.road.proofs.Ranges.{all_refused}
use Rattle.join.specs.Weights.{town_of}
use Rattle.join.specs.Components.{crossings_in}
use Rattle.join.proofs.component.Component.shortest_on.Goals as goal

-- the first of the pair that was picked, if one was
first_picked : (D' : Type 0) (S' : ℕ → Type 0) (o : Option (ℕ × ℤ)) (r : Option ℕ) (D : Type 0) (S : ℕ × ℤ → Type 0) (Q : ℕ × ℤ → ℕ → Type 0) →
    MatchOption o (r ≡ None) (λ x. IsSomeAnd r (Q x)) → MatchOption o D S → ((x : ℕ × ℤ) (y : ℕ) → Q x y → y ≡ x.0) → (D → D') → ((x : ℕ × ℤ) → o ≡ Some x → S' x.0) → MatchOption r D' S'
first_picked D' S' None r D S Q m d first none some = subst (λ o. MatchOption o D' S') (sym m) (none d)
first_picked D' S' (Some x) None D S Q m s first none some = absurd m
first_picked D' S' (Some x) (Some y) D S Q m s first none some = subst S' (sym (first x y m)) (some x refl)

pub returns : goal.returns
returns c =
    let n = c.args.streets.now.town.now.count in
    let cuts = λ (k : ℕ). cut (town_of c.args.streets.now) (crossings_in c.args.self.now) k in
    first_picked ((k : ℕ) → k < n → cuts k ≡ false) (λ k. (k < n) × (cuts k ≡ true)) c.min_by_key.result c.map.result _ _ _ c.map.ensures.cases c.min_by_key.ensures.ran (λ x y q. search rules)
    (λ d. all_refused _ _ (λ k. cuts k ≡ false) (λ x q k. search (rules, tests)) n d (ap rev_source c.filter_map.ensures.source ∙ c.rev.ensures.source) c.filter_map.ensures.closure)
    (λ x e. (search (rules, ranges), search (rules, ranges)))
