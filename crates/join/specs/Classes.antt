-- Classes of crossings, joined by streets of no length. Assumes nothing: these are definitions.
use Rattle.std.specs.Prelude.{◌≡◌, ℕ, ◌<◌, ◌≤◌, false, ◌&&◌, vec_items, ◌==◌, nat_lt, slice_index}
use Rattle.road.specs.Roads.{pick, Town}
use Rattle.road.specs.Counts.{one, two, Set}
use Rattle.join.specs.declared.partition.Classes.{Classes}
use Rattle.join.specs.Joins.{◌⊞◌, Joins, at, Zero}
use Rattle.join.specs.Amounts.{row}

-- the label of a crossing, and its way
abbrev pub label_in : Classes → ℕ → ℕ
label_in c v = slice_index c.label v

abbrev pub way_in : Classes → ℕ → Set
way_in c = row (vec_items c.way)

-- labels of the crossings below n: each is one of them, and is its own label
pub record Labels (n : ℕ) (cls : ℕ → ℕ) : Type 0 where
  pub small : (v : ℕ) → v < n → cls v < n
  pub own : (v : ℕ) → v < n → cls (cls v) ≡ cls v

-- the way of a crossing leads to it from the crossing that its label names, over streets of no length
pub record Classed (t : Town) (l : ℕ → ℕ) (c : Classes) : Type 0 where
  pub leads : (v : ℕ) → v < 100 → Joins t (at (label_in c v)) v (way_in c v)
  pub zero : (v : ℕ) → v < 100 → Zero t l (way_in c v)

-- each crossing is a class of its own
pub record Alone (c : Classes) : Type 0 where
  pub labels : (v : ℕ) → v < 100 → label_in c v ≡ v
  pub ways : (v : ℕ) → way_in c v ≡ (λ _. false)

-- streets of no length, of the first n, stay in a class
abbrev pub Merged : Town → (ℕ → ℕ) → Classes → ℕ → Type 0
Merged t l c n = (k : ℕ) → k < n → l k ≡ 0 → label_in c (one t k) ≡ label_in c (two t k)

-- the crossings below n of the class `from` came into the class `to`, over a link
pub record Absorbed (from to : ℕ) (link : Set) (c c' : Classes) (n : ℕ) : Type 0 where
  pub labels : (v : ℕ) → v < n → label_in c' v ≡ pick (label_in c v == from) to (label_in c v)
  pub ways : (v : ℕ) → v < n → way_in c' v ≡ pick (label_in c v == from) (link ⊞ way_in c v) (way_in c v)
  pub past_labels : (v : ℕ) → n ≤ v → label_in c' v ≡ label_in c v
  pub past_ways : (v : ℕ) → n ≤ v → way_in c' v ≡ way_in c v

-- crossings that were in one class still are, and the way from one to the other is the same
pub record Kept (c c' : Classes) : Type 0 where
  pub labels : (u v : ℕ) → u < 100 → v < 100 → label_in c u ≡ label_in c v → label_in c' u ≡ label_in c' v
  pub ways : (u v : ℕ) → u < 100 → v < 100 → label_in c u ≡ label_in c v → way_in c' u ⊞ way_in c' v ≡ way_in c u ⊞ way_in c v

-- the class of b
abbrev pub class_in : Classes → ℕ → Set
class_in c b v = nat_lt v 100 && label_in c v == label_in c b
