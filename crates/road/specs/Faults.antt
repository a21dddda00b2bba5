-- What is wrong with a list of legs as a drive. Assumes nothing: these are definitions.
use Rattle.std.specs.Prelude.{◌≡◌, ℕ, suc, ◌<◌, Bool, not, ◌&&◌, ◌||◌, List, [], ◌∷◌, length, Option, Result, ◌==◌, nat_le, nat_lt}
use Rattle.road.specs.declared.fault.Fault.{Fault}
use Rattle.road.specs.declared.fault.Fault.TheVariants.{Leg as AtLeg, Home, Street as LeftOut}
use Rattle.road.specs.Roads.{pick, Town, Leg, from, into, times}
use Rattle.road.specs.Counts.{size, Set}
use Rattle.road.specs.First.{unless, unless_all, ◌then◌, Says}
use Rattle.road.specs.Model.{marked}

-- whether a leg is of a street and begins at v
abbrev pub begins : Town → ℕ → Leg → Bool
begins t v l = nat_lt l.by (size t) && from t l == v

-- how many of the legs are a drive from v
unfoldable pub driven : Town → ℕ → List Leg → ℕ
driven t v [] = 0
driven t v (l ∷ ls) = pick (begins t v l) (suc (driven t (into t l) ls)) 0

-- where the last leg ends
unfoldable pub end : Town → ℕ → List Leg → ℕ
end t v [] = v
end t v (l ∷ ls) = end t (into t l) ls

-- the first leg that does not begin where the one before ended
abbrev pub leg_fault : Town → ℕ → List Leg → Option Fault
leg_fault t v ls = unless (nat_le (length ls) (driven t v ls)) (AtLeg (driven t v ls))

-- the first street of a set that is left out
abbrev pub street_fault : Town → Set → Set → Option Fault
street_fault t must drives = unless_all (size t) (λ k. not (must k) || drives k) LeftOut

-- whether a street is driven
abbrev pub drives : List Leg → Set
drives ls k = nat_lt 0 (times k ls)

-- what is wrong with the legs as a drive from v to w over the streets of a set
abbrev pub fault : Town → ℕ → ℕ → Set → List Leg → Option Fault
fault t v w must ls = leg_fault t v ls then (unless (end t v ls == w) Home then street_fault t must (drives ls))

-- an answer, or the fault
abbrev pub Finds : {A : Type 0} → Option Fault → (A → Type 0) → Result A Fault → Type 0
Finds due P r = Says (λ f. f) due P r

-- the legs from v end at w, and just the streets that they drive are marked
pub record Driven (t : Town) (v : ℕ) (ls : List Leg) (w : ℕ) (ms : List Bool) : Type 0 where
  pub there : end t v ls ≡ w
  pub marks : (k : ℕ) → k < size t → marked ms k ≡ drives ls k
