-- Sets of extra drives for the crossings, with their prices. Assumes nothing: these are definitions.
use Rattle.std.specs.Prelude.{◌≡◌, ℕ, ◌+◌, ◌<◌, ◌≤◌, Bool, true, false, not, vec_items}
use Rattle.road.specs.Counts.{sum, Set}
use Rattle.road.specs.Model.{marked}
use Rattle.join.specs.declared.drives.PricedDrives.{PricedDrives}
use Rattle.join.specs.declared.prices.Prices.{Prices}
use Rattle.join.specs.declared.problem.Problem.{Problem}
use Rattle.join.specs.Joins.{Joins, cost}
use Rattle.join.specs.Amounts.{amount}
use Rattle.join.specs.Weights.{end_of}
use Rattle.join.specs.Problems.{town_in, costs_in, start_in}
use Rattle.join.specs.Drives.{drives_of, price_of}

-- the set for each crossing, and its price
abbrev pub extra_in : Prices → ℕ → Set
extra_in q = drives_of (vec_items q.extra)

abbrev pub price_in : Prices → ℕ → ℕ
price_in q = price_of (vec_items q.extra)

-- all prices together
abbrev pub all_prices : Prices → ℕ
all_prices q = sum 100 (price_in q)

-- the price at one end of a street is no higher than that at the other and the street's cost
abbrev pub Near : Prices → ℕ → Bool → Type 0
Near q k back = price_in q (end_of (town_in q.problem) k (not back)) ≤ price_in q (end_of (town_in q.problem) k back) + costs_in q.problem k

-- so at the streets below n
abbrev pub AllNear : Prices → ℕ → Type 0
AllNear q n = (k : ℕ) (back : Bool) → k < n → Near q k back

-- a set that leads to crossing v, with what it costs
pub record Led (p : Problem) (v : ℕ) (d : PricedDrives) : Type 0 where
  pub joins : Joins (town_in p) (start_in p) v (marked d.drives)
  pub costs : amount d.price ≡ cost (town_in p) (costs_in p) (marked d.drives)

-- prices after an attempt to lower them: some are lower, or nothing is changed and N holds
pub record Lowered (q q' : Prices) (done : Bool) (N : Type 0) : Type 0 where
  pub problem : q'.problem ≡ q.problem
  pub less : done ≡ true → all_prices q' < all_prices q
  pub same : done ≡ false → (q' ≡ q) × N
