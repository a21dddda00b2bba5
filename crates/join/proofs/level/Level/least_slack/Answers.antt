-- The steps of the proof of `least_slack` that are not found by search.
use Rattle.std.proofs.Common.{◌≡◌, ℕ, ◌+◌, ◌<◌, ◌≤◌, false, Option, None, Some, MatchOption, List, length, ℤ, pos, w64, to_z, of_z, sym, ap, ◌∙◌, subst, arith, rules}
use Rattle.std.proofs.lemmas.Bool.{false_from_ne_true}
use Rattle.std.proofs.lemmas.Int.{ints, to_z-of_z}
use Rattle.road.specs.declared.leg.Leg.{Leg}
use Rattle.road.specs.Roads.{Town}
use Rattle.road.specs.Counts.{Set, cut, size}
use Rattle.join.specs.Borders.{street_at, Bordered}
use Rattle.join.specs.Joins.{Room}
use Rattle.join.specs.Potentials.{Tightest, slack}
use Rattle.join.specs.Weights.{ground, side_of}
use Rattle.join.specs.Turns.{lengths_at, potential_at}
use Rattle.join.proofs.Borders.{each_cut}
use Rattle.join.proofs.Leasts.{LeastOf, least_kept, least_new, least_first}
use Rattle.join.proofs.Stages.{room_cut}
use Rattle.join.proofs.level.Level.least_slack.Goals as goal
use Rattle.join.proofs.level.Level.least_slack.Goals.{in-Some, in_default-2, in_default}

-- the least over all legs is that of the tightest street, and there is room for it
found : (t : Town) (l g : ℕ → ℕ) (b : ℕ) (Z : Set) (n : ℕ) (ls : List Leg) → Bordered t Z ls → Room t l g b Z 1 → (i : ℕ) → length ls ≤ i → i ≤ length ls → (r : Option ℤ) →
    LeastOf (λ (i : ℕ). slack t l g b Z (street_at ls i)) i r →
    MatchOption r ((k : ℕ) → k < size t → cut t Z k ≡ false) (λ e. (k : ℕ) × Tightest t l g b Z n k × (e ≡ pos (slack t l g b Z k)) × (1 ≤ slack t l g b Z k))
found t l g b Z n ls o room i lo hi None h = λ k u. false_from_ne_true (cut t Z k) (λ c. each_cut t Z ls o (λ _. ⊥) (λ j lt. omega (arith, h)) k c)
found t l g b Z n ls o room i lo hi (Some e) h =
    let x = o.each h.0 (omega (arith, h.1)) in (
      street_at ls h.0,
      record { below = x.below; cuts = x.cuts; least = λ j lt u. each_cut t Z ls o (λ k. slack t l g b Z (street_at ls h.0) ≤ slack t l g b Z k) (λ k q. h.3 k (omega arith)) j u },
      h.2,
      omega (arith, room_cut t l g b Z 1 room (street_at ls h.0) x.below x.cuts),
    )

pub loop-leg-preserved : goal.loop-leg-preserved
loop-leg-preserved c =
    let s = c.args.border.now in
    let n = c.loop-leg.leg-index in
    let f = λ (i : ℕ). slack (ground s.cut) (lengths_at c.args.self.now) (potential_at c.args.self.now) c.args.b (side_of s.cut) (street_at s.legs.now i) in
    let is : to_z w64 (of_z w64 c.slack-slack.result) ≡ pos (f n) = to_z-of_z w64 c.slack-slack.result (search rules) ∙ c.slack-slack.ensures in
    elim c.match-least.branch [
      | in-Some w ↦ subst (LeastOf f (n + 1)) (sym w.least-is) (least_kept f n w.in-Some.before (subst (LeastOf f n) w.in-Some.is c.loop-leg.invariant) (λ m e. omega (arith, ints, e, is, w.if-before-slack.true)))
      | in_default-2 w ↦ subst (LeastOf f (n + 1)) (sym (w.least-is ∙ ap Some is)) (least_new f n w.in-Some.before (subst (LeastOf f n) w.in-Some.is c.loop-leg.invariant) (λ m e. omega (arith, ints, e, is, w.if-before-slack.false)))
      | in_default w ↦ subst (LeastOf f (n + 1)) (sym (w.least-is ∙ ap Some is)) (least_first f n (subst (LeastOf f n) w.in_default.is c.loop-leg.invariant))
    ]

pub returns : goal.returns
returns c =
    let s = c.args.border.now in
    found (ground s.cut) (lengths_at c.args.self.now) (potential_at c.args.self.now) c.args.b (side_of s.cut) s.cut.town.now.count s.legs.now s.border c.requires.room
    c.loop-leg.leg-index c.loop-leg-test.false c.loop-leg.auto.leg-index-end c.loop-leg.least c.loop-leg.invariant
