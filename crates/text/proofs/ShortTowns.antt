-- A town of the code has numbers that are short enough for its text to be read back. Assumes nothing.
use Rattle.std.proofs.Common.{◌≡◌, ℕ, ◌<◌, length, get_or, take, sym, subst, ◌∙◌, arith}
use Rattle.std.proofs.lemmas.List.{get_or_default, get_or-take, length-take-le}
use Rattle.road.specs.declared.street.Street.{Street}
use Rattle.road.specs.declared.town.Town as town
use Rattle.road.specs.Roads.{no_street}
use Rattle.road.specs.Limits.{Within}
use Rattle.road.specs.Model.{model}
use Rattle.text.specs.Laws.{ShortTown}

module _ (t : town.Town) where
  street_within : (k : ℕ) (d : Street) → k < length (take t.count t.streets) → Within t.crossings (get_or (take t.count t.streets) k d)
  street_within k d h =
      let few : length (take t.count t.streets) ≡ t.count = length-take-le t.count t.streets (omega (arith, t.few, t.places)) in
      let low : k < t.count = omega (arith, h, few) in
      subst (Within t.crossings) (sym (get_or_default (take t.count t.streets) k d no_street h ∙ get_or-take t.count t.streets k no_street low)) (t.within k low)

  pub short_town : ShortTown (model t) t.depot
  short_town = record {
    crossings = omega (arith, t.most);
    depot = omega (arith, t.home, t.most);
    one = λ k d h. omega (arith, (street_within k d h).0, t.most);
    two = λ k d h. omega (arith, (street_within k d h).1, t.most);
    long = λ k d h. omega (arith, (street_within k d h).2);
  }
