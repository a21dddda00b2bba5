-- The first sets, one for each crossing. Assumes nothing.
use Rattle.std.proofs.Common.{◌≡◌, ℕ, ◌<◌, ◌≤◌, true, List, length, get_or, Option, sym, ap, ◌∙◌, subst, ⊎_elim, arith, rules}
use Rattle.std.proofs.iter.Yields.{nat_range_steps}
use Rattle.std.proofs.iter.runs.Made.{at-is}
use Rattle.std.proofs.iter.runs.Sources.{range_runs}
use Rattle.std.proofs.lemmas.List.{get_or_past}
use Rattle.std.proofs.lemmas.Bool.{cases_lt}
use Rattle.std.proofs.lemmas.Option.{get_or_from_slice_get}
use Rattle.std.specs.Iterator.Adapters.{map_steps}
use Rattle.std.specs.Iterator.Runs.{EachRunFrom, IsMapRun, ItemsCountUp, Run, SomeRun, WholeRun}
use Rattle.std.specs.declared.iter.Map.{Map}
use Rattle.std.specs.declared.ops.Range.{Range}
use denote.Param.Members.{Mut, Called}
use Rattle.road.specs.Model.{marked}
use Rattle.join.specs.declared.drives.PricedDrives.{PricedDrives}
use Rattle.join.specs.declared.problem.Problem.{Problem}
use Rattle.join.specs.Joins.{Joins, cost}
use Rattle.join.specs.Amounts.{amount}
use Rattle.join.specs.Problems.{town_in, costs_in, start_in, reached_in}
use Rattle.join.specs.Drives.{no_drives, drives_of, price_of}
use Rattle.join.specs.First.{Begun}
use Rattle.join.proofs.StreetSets.{cost_bound, marked_below}

-- the sets that a closure gives, one for each crossing
module _ {F : Type 0} {g : Mut F (ℕ × Unit {0}) PricedDrives} {f : F} (p : Problem)
    (gives : (u : ℕ) (d : PricedDrives) (h : F) → Called g f (u, tt) d h →
    (h ≡ f) × (reached_in p u ≡ true → Joins (town_in p) (start_in p) u (marked d.drives)) × (amount d.price ≡ cost (town_in p) (costs_in p) (marked d.drives))) where
  abbrev steps : Map (Range ℕ) F → Option PricedDrives → Map (Range ℕ) F → Type 0
  steps = map_steps nat_range_steps g

  module _ (ss : List PricedDrives) (r : Run steps) (q : Run nat_range_steps) (from : q.from ≡ record { start = 0; end = 100 }) (whole : r.whole ≡ true) (of : IsMapRun r q g f) (is : ss ≡ r.items) where
    abbrev numbers : ItemsCountUp q q.from.start q.from.end
    numbers = range_runs q q.seen

    hundred : q.len ≡ 100
    hundred = omega (arith, numbers.1 (of.0 ∙ whole), ap (λ (r : Range ℕ). r.start) from, ap (λ (r : Range ℕ). r.end) from)

    called : (u : ℕ) → u < 100 → Called g f (u, tt) (get_or ss u no_drives) f
    called u h = search (rules, numbers.3 u, (of.2 (λ a d k e. (gives a.0 d k e).0)).0 u, at-is r u, is, hundred, from, get_or_from_slice_get)

    begun_run : Begun p ss 100
    begun_run = record {
      long = ap length is ∙ sym r.long ∙ of.1 ∙ hundred;
      joins = λ u h. (gives u _ f (called u h)).1;
      costs = λ u h. (gives u _ f (called u h)).2;
    }

  pub begun_collected : {s : Map (Range ℕ) F} {ss : List PricedDrives} {n : ℕ} → WholeRun steps s (λ r. (ss ≡ r.items) × (n ≡ length r.items)) →
      EachRunFrom steps s (λ r. SomeRun nat_range_steps (record { start = 0; end = 100 }) (λ q. IsMapRun r q g f)) → Begun p ss 100
  begun_collected {ss = ss} ran runs = let q = runs ran.0 ran.0.seen ran.1 in begun_run ss ran.0 q.0 q.1 ran.2 q.2 ran.3.0

-- a crossing that can be come to is one of 100
pub reached_below : (p : Problem) (u : ℕ) → reached_in p u ≡ true → u < 100
reached_below p u r = omega (arith, marked_below p.reached.now u r, p.places)

-- what a set costs is within the bound
pub begun_high : (p : Problem) (ss : List PricedDrives) → Begun p ss 100 → (u : ℕ) → price_of ss u ≤ 1200000000000
begun_high p ss b u = ⊎_elim
    (λ h. omega (arith, b.costs u h, cost_bound p.streets.town.now (costs_in p) (drives_of ss u) p.streets.most))
    (λ h. subst (λ s. amount s.price ≤ 1200000000000) (sym (get_or_past ss u no_drives (omega (arith, b.long)))) (omega arith)) (cases_lt u 100)
