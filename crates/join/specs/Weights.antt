-- What a town with lengths for its streets, and a set of its crossings, stand for. Assumes nothing: these are definitions.
use Rattle.std.specs.Prelude.{ℕ, Bool, not}
use Rattle.road.specs.Roads.{pick, Town}
use Rattle.road.specs.Counts.{one, two, Set}
use Rattle.road.specs.Model.{model, marked}
use Rattle.join.specs.declared.cut.Cut.{Cut}
use Rattle.join.specs.declared.weighted.Weighted.{Weighted}
use Rattle.join.specs.Amounts.{number}

-- the town and its lengths
abbrev pub town_of : Weighted → Town
town_of w = model w.town.now

abbrev pub lengths_of : Weighted → ℕ → ℕ
lengths_of w = number w.lengths.now

-- the town and the crossings
abbrev pub ground : Cut → Town
ground c = model c.town.now

abbrev pub side_of : Cut → Set
side_of c = marked c.marks.now

-- one end of a street, or the other
abbrev pub end_of : Town → ℕ → Bool → ℕ
end_of t k back = pick back (two t k) (one t k)

-- the ends of a street that is cut: in Z, and outside
abbrev pub inner : Town → Set → ℕ → ℕ
inner t Z k = end_of t k (not (Z (one t k)))

abbrev pub outer : Town → Set → ℕ → ℕ
outer t Z k = end_of t k (Z (one t k))
