-- The streets of a town of the code. Assumes nothing.
use Rattle.std.proofs.Common.{◌≡◌, ℕ, ◌<◌, ◌≤◌, get_or, take, arith}
use Rattle.std.proofs.lemmas.List.{get_or-take, get_or_past, length-take-le}
use Rattle.road.specs.declared.town.Town.{Town}
use Rattle.road.specs.Roads.{street, no_street}
use Rattle.road.specs.Counts.{size}
use Rattle.road.specs.Model.{model}

pub size_model : (t : Town) → size (model t) ≡ t.count
size_model t = length-take-le t.count t.streets (omega (arith, t.few, t.places))

pub street_model : (t : Town) (k : ℕ) → k < t.count → street (model t) k ≡ get_or t.streets k no_street
unfolding street
street_model t k h = get_or-take t.count t.streets k no_street h

pub street_past : (t : Town) (k : ℕ) → t.count ≤ k → street (model t) k ≡ no_street
unfolding street
street_past t k h = get_or_past (take t.count t.streets) k no_street (omega (arith, size_model t))
