-- All streets of a sound town, at twice their length. Assumes nothing.
use Rattle.std.proofs.Common.{◌≡◌, ℕ, ◌<◌, ◌≤◌, true, List, length, sym, ap, ◌∙◌, subst, ⊎_elim, arith}
use Rattle.std.proofs.lemmas.Bool.{cases_lt}
use Rattle.road.specs.Counts.{size, one, two, all}
use Rattle.road.specs.Reach.{reached}
use Rattle.road.specs.Model.{model, marked}
use Rattle.road.specs.declared.town.Town.{Town}
use Rattle.road.specs.declared.sound.SoundTown.{SoundTown}
use Rattle.road.proofs.Models.{size_model, street_model, street_past}
use Rattle.road.proofs.Parity.{xor_same}
use Rattle.road.proofs.Reached.{reached_closed}
use Rattle.join.specs.declared.component.Component.{Component}
use Rattle.join.specs.declared.prices.Prices.{Prices}
use Rattle.join.specs.declared.problem.Problem.{Problem}
use Rattle.join.specs.declared.turn.Stage.{Stage}
use Rattle.join.specs.Certified.{double, charge_at, Certified}
use Rattle.join.specs.Components.{crossings_in, Spans}
use Rattle.join.specs.Problems.{town_in, costs_in, reached_in}
use Rattle.join.specs.Prices.{price_in, extra_in}
use Rattle.join.specs.Passes.{ShowsLeast}
use Rattle.join.proofs.Certificates.{certified_all}
use Rattle.join.proofs.Trees.{spans_reached}

-- twice a length is not much
pub double_most : (t : Town) (k : ℕ) → double (model t) k ≤ 200000
double_most t k = ⊎_elim
    (λ h. omega (arith, ap (λ s. s.long) (street_model t k h), (t.within k h).2))
    (λ h. omega (arith, ap (λ s. s.long) (street_past t k h)))
    (cases_lt k t.count)

-- the far end of a street of a sound town can be come to
pub come_two : (s : SoundTown) (k : ℕ) → k < size (model s.town) → reached (model s.town) s.town.depot (two (model s.town) k) ≡ true
come_two s k h =
    sym (xor_same (reached (model s.town) s.town.depot (one (model s.town) k)) (reached (model s.town) s.town.depot (two (model s.town) k))
    (reached_closed (model s.town) s.town.depot k h)) ∙ s.reached k h

-- a tree from the depot finds what can be come to
pub tree_finds : (s : SoundTown) (c : Component) → c.from ≡ s.town.depot → Spans (model s.town) c → (u : ℕ) → crossings_in c u ≡ reached (model s.town) s.town.depot u
tree_finds s c from spans u = spans_reached (model s.town) c spans u ∙ ap (λ x. reached (model s.town) x u) from

-- no class is charged more than a street costs
pub charge_small : (p : Problem) (q : Prices) (ss : List Stage) → q.problem ≡ p → ShowsLeast q ss → costs_in p ≡ double (town_in p) → (i : ℕ) → i < length ss → charge_at ss i ≤ 10000000
charge_small p q ss same s e i h =
    let m = subst (λ p. (k : ℕ) × (k < size (town_in p)) × (charge_at ss i ≤ costs_in p k)) same (s.most i h) in
    omega (arith, m.2, ap (λ c. c m.0) e, double_most p.streets.town.now m.0)

-- what is shown of a problem with all streets at twice their length
pub certified_double : (p : Problem) (q : Prices) (ss : List Stage) → q.problem ≡ p → ShowsLeast q ss → costs_in p ≡ double (town_in p) → ((k : ℕ) → k < 300 → marked p.required.now k ≡ true) →
    Certified (town_in p) all (double (town_in p)) p.streets.town.now.depot (reached_in p) (price_in q) (extra_in q) ss
certified_double p q ss same s e h =
    subst (λ c. Certified (town_in p) all c p.streets.town.now.depot (reached_in p) (price_in q) (extra_in q) ss) e
    (certified_all (town_in p) (marked p.required.now) (costs_in p) p.streets.town.now.depot (reached_in p) (price_in q) (extra_in q) ss
    (λ k i. h k (omega (arith, size_model p.streets.town.now, p.streets.town.now.few)))
    (subst (λ p. Certified (town_in p) (marked p.required.now) (costs_in p) p.streets.town.now.depot (reached_in p) (price_in q) (extra_in q) ss) same s.certified))
