-- How sets and prices change at one crossing. Assumes nothing.
use Rattle.std.proofs.Common.{◌≡◌, ℕ, ◌+◌, ◌-◌, ◌<◌, ◌≤◌, Bool, true, false, not, get_or, set, vec_items, sym, refl, ap, ◌∙◌, subst, arith}
use Rattle.std.specs.Bool.{⊤}
use Rattle.std.proofs.lemmas.List.{get_or-set_same, get_or-set_other}
use Rattle.std.proofs.lemmas.Bool.{both_ways}
use Rattle.road.specs.Roads as roads
use Rattle.road.specs.declared.leg.Leg.{Leg}
use Rattle.road.specs.Counts.{sum, size, Set, Side, forth, back}
use Rattle.road.specs.Model.{marked}
use Rattle.road.proofs.Cuts.{leg_side}
use Rattle.road.proofs.Models.{size_model}
use Rattle.road.proofs.Sums.{sum_point}
use Rattle.join.specs.declared.problem.Problem.{Problem}
use Rattle.join.specs.declared.drives.PricedDrives.{PricedDrives}
use Rattle.join.specs.declared.prices.Prices.{Prices}
use Rattle.join.specs.Joins.{◌⊞◌, single, Joins, cost}
use Rattle.join.specs.Amounts.{amount}
use Rattle.join.specs.Weights.{end_of}
use Rattle.join.specs.Problems.{town_in, costs_in, start_in, reached_in}
use Rattle.join.specs.Drives.{no_drives, price_of}
use Rattle.join.specs.Prices.{extra_in, price_in, all_prices, Near, Led, Lowered}
use Rattle.join.proofs.Joins.{join_on, side_join}
use Rattle.join.proofs.StreetSets.{cost_near}

-- a leg by a street begins and ends at its ends
pub begin_is : (t : roads.Town) (k : ℕ) (b : Bool) → roads.from t (record { by = k; back = b }) ≡ end_of t k b
unfolding roads.from
begin_is t k b = refl

pub into_is : (t : roads.Town) (k : ℕ) (b : Bool) → roads.into t (record { by = k; back = b }) ≡ end_of t k (not b)
unfolding roads.into
into_is t k true = refl
into_is t k false = refl

-- a street seen from either end
pub end_side : (t : roads.Town) (k : ℕ) (b : Bool) → Side t k (end_of t k b) (end_of t k (not b))
end_side t k true = back
end_side t k false = forth

-- a set leads on over a leg
pub carried : (p : Problem) (l : Leg) (J : Set) → l.by < size (town_in p) → Joins (town_in p) (start_in p) (roads.from (town_in p) l) J → Joins (town_in p) (start_in p) (roads.into (town_in p) l) (J ⊞ single l.by)
unfolding roads.from roads.into
carried p l J h j =
    join_on (town_in p) (start_in p) (roads.from (town_in p) l) (roads.into (town_in p) l) J (single l.by) j
    (side_join (town_in p) l.by (roads.from (town_in p) l) (roads.into (town_in p) l) h (leg_side (town_in p) l.by l.back))

-- the ends of a street can be come to
pub end_reached : (p : Problem) (k : ℕ) (b : Bool) → k < size (town_in p) → reached_in p (end_of (town_in p) k b) ≡ true
end_reached p k true h = p.twos k h
end_reached p k false h = p.ones k h

pub side_reached : (p : Problem) (k x y : ℕ) → k < size (town_in p) → Side (town_in p) k x y → reached_in p x ≡ true
side_reached p k x y h forth = p.ones k h
side_reached p k x y h back = p.twos k h

-- nothing is lowered
pub lowered_none : (q : Prices) → Lowered q q false ⊤
lowered_none q = record { problem = refl; less = λ e. absurd (both_ways false refl e); same = λ _. (refl, tt) }

-- the set for the crossing where a leg begins, as it is there
pub led_begin : (q : Prices) (l : Leg) (d : PricedDrives) (x : ℕ) → l.by < q.problem.streets.town.now.count → x ≡ roads.from (town_in q.problem) l →
    marked d.drives ≡ extra_in q x → amount d.price ≡ price_in q x → Led q.problem (roads.from (town_in q.problem) l) d
led_begin q l d x h ex set price =
    let p = q.problem in
    let r = ap (reached_in p) (ex ∙ begin_is (town_in p) l.by l.back) ∙ end_reached p l.by l.back (omega (arith, size_model p.streets.town.now)) in
    record {
      joins = subst (λ u. Joins (town_in p) (start_in p) u (marked d.drives)) ex (subst (Joins (town_in p) (start_in p) x) (sym set) (q.joins x r));
      costs = price ∙ q.costs x r ∙ ap (cost (town_in p) (costs_in p)) (sym set);
    }

-- another set for one crossing, with its cost
module _ (q : Prices) (y : ℕ) (d : PricedDrives) (h : y < 100) where
  here : get_or (set (vec_items q.extra) y d) y no_drives ≡ d
  here = get_or-set_same (vec_items q.extra) y d no_drives (omega (arith, q.rows))

  other : (u : ℕ) → (u ≡ y → ⊥) → get_or (set (vec_items q.extra) y d) u no_drives ≡ get_or (vec_items q.extra) u no_drives
  other u ne = get_or-set_other (vec_items q.extra) y u d no_drives ne

  -- the prices together are less
  pub prices_set : amount d.price < price_in q y → sum 100 (price_of (set (vec_items q.extra) y d)) < all_prices q
  prices_set lt =
      let g : (g : ℕ) × (0 < g) × (price_in q y ≡ amount d.price + g) = gap (amount d.price) (price_in q y) lt in
      let s = sum_point 100 y g.0 (price_in q) (price_of (set (vec_items q.extra) y d)) h (omega (arith, g.2, ap (λ s. amount s.price) here))
      (λ k _ ne. sym (ap (λ s. amount s.price) (other k (λ r. ne (sym r))))) in
      omega (arith, g.1)
    where
      gap : (a b : ℕ) → a < b → (g : ℕ) × (0 < g) × (b ≡ a + g)
      gap a b i = (b - a, omega arith, omega arith)

module _ (q : Prices) (k : ℕ) (b : Bool) (h : k < q.problem.streets.town.now.count) (x y : ℕ)
    (ex : x ≡ end_of (town_in q.problem) k b) (ey : y ≡ end_of (town_in q.problem) k (not b)) where
  below : k < size (town_in q.problem)
  below = omega (arith, size_model q.problem.streets.town.now)

  from_x : reached_in q.problem x ≡ true
  from_x = ap (reached_in q.problem) ex ∙ end_reached q.problem k b below

  -- the set for one end of a street goes on to the other
  pub over_join : Joins (town_in q.problem) (start_in q.problem) y (extra_in q x ⊞ single k)
  over_join =
      rw ey
      (join_on (town_in q.problem) (start_in q.problem) x (end_of (town_in q.problem) k (not b)) (extra_in q x) (single k) (q.joins x from_x)
      (rw ex (side_join (town_in q.problem) k (end_of (town_in q.problem) k b) (end_of (town_in q.problem) k (not b)) below (end_side (town_in q.problem) k b))))

  -- where it is no dearer, the prices are near
  pub over_near : price_in q y ≤ cost (town_in q.problem) (costs_in q.problem) (extra_in q x ⊞ single k) → Near q k b
  over_near le =
      let n = cost_near (town_in q.problem) (costs_in q.problem) (extra_in q x) k below in
      omega (arith, le, q.costs x from_x, ap (price_in q) ex, ap (price_in q) ey)
