-- Walks over streets that are left, each taken off as it is driven. Assumes nothing: these are definitions.
use Rattle.std.specs.Prelude.{◌≡◌, ℕ, ◌+◌, ◌<◌, false, List, [], ◌∷◌, vec_items, ◌==◌}
use Rattle.road.specs.declared.leg.Leg.{Leg}
use Rattle.road.specs.Roads.{Town, from, Drive, times}
use Rattle.road.specs.Counts.{bit, size, one, two, ends, Set}
use Rattle.join.specs.Odd.{odd_at}
use Rattle.pairs.specs.declared.pair.Pair.{Pair}

-- a walk: where it begins, where it ends, and its legs
pub record Walk : Type 0 where
  pub one : ℕ
  pub two : ℕ
  pub legs : List Leg

abbrev pub walk_of : Pair → Walk
walk_of p = record { one = p.one; two = p.two; legs = vec_items p.legs }

-- the legs lead from the one end to the other
abbrev pub IsWalk : Town → Walk → Type 0
IsWalk t q = Drive t q.one q.legs q.two

-- how many ends of a walk are at a crossing
abbrev pub walk_ends : ℕ → Walk → ℕ
walk_ends v q = bit (q.one == v) + bit (q.two == v)

-- a street whose ends are one crossing is driven from one to two
abbrev pub Forth : Town → Leg → Type 0
Forth t l = one t l.by ≡ two t l.by → l.back ≡ false

-- a leg over street k from v
pub record LeadsOver (t : Town) (k v : ℕ) (l : Leg) : Type 0 where
  pub by : l.by ≡ k
  pub begins : from t l ≡ v
  pub forth : Forth t l

-- something holds of each
abbrev pub Each : {X : Type 0} → (X → Type 0) → List X → Type 0
Each P [] = Unit {0}
Each P (x ∷ xs) = P x × Each P xs

-- a leg leads on from v over a street that is left, where street k is left c k times
pub record LeadsOn (t : Town) (c : ℕ → ℕ) (v : ℕ) (l : Leg) : Type 0 where
  pub below : l.by < size t
  pub left : 0 < c l.by
  pub begins : from t l ≡ v
  pub forth : Forth t l

-- no street, of the first n, that is left has an end at v
abbrev pub Clear : Town → (ℕ → ℕ) → ℕ → ℕ → Type 0
Clear t c v n = (k : ℕ) → k < n → 0 < c k → ends t k v ≡ 0

-- of the streets that were left, c, a walk took off each as often as it drives it; d is left, nothing of it where the walk ends
pub record Walked (t : Town) (c d : ℕ → ℕ) (q : Walk) : Type 0 where
  pub drive : IsWalk t q
  pub taken : (k : ℕ) → times k q.legs + d k ≡ c k
  pub forth : Each (Forth t) q.legs
  pub clear : Clear t d q.two (size t)

-- of the streets of J a walk has taken off those that it drives, each once; L is left. Its two ends were odd and are even, and no other crossing has changed
pub record Taken (t : Town) (J L : Set) (q : Walk) : Type 0 where
  pub drive : IsWalk t q
  pub taken : (k : ℕ) → times k q.legs + bit (L k) ≡ bit (J k)
  pub ends : (v : ℕ) → walk_ends v q + bit (odd_at t L v) ≡ bit (odd_at t J v)
