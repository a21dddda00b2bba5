-- Lists of the streets at each crossing: as they begin, and past the crossings. Assumes nothing.
use Rattle.std.proofs.Common.{◌≡◌, ℕ, ◌<◌, ◌≤◌, slice_index, ap, arith}
use Rattle.std.proofs.lemmas.Bool.{ne_eqb}
use Rattle.road.specs.declared.town.Town.{Town as Roads}
use Rattle.road.specs.Roads.{Town}
use Rattle.road.specs.Counts.{bit, size, one, two}
use Rattle.road.specs.Model.{model}
use Rattle.road.proofs.Models.{size_model}
use Rattle.join.proofs.Pairing.{inside_model}
use Rattle.pairs.specs.declared.lists.StreetLists.{StreetLists}
use Rattle.pairs.specs.Incidences.{Skips, Listed}

-- lists of no street
pub listed_none : (t : Town) (n : ℕ) (s : StreetLists) → size t ≡ n → ((v : ℕ) → v < t.crossings → slice_index s.first v ≡ n) → Listed t n s
listed_none t n s e first = record {
  first = λ v h. (omega (arith, first v h), λ j l m. absurd (omega (arith, first v h)));
  at_one = λ k l m. absurd (omega arith);
  at_two = λ k l m. absurd (omega arith);
}

-- past the crossings no street has an end
pub skips_past : (t : Roads) (v : ℕ) → t.crossings ≤ v → Skips (model t) v 0 t.count
skips_past t v h = (
  omega arith,
  λ j l m.
      let w = inside_model t j (omega (arith, size_model t)) in
      omega (arith, ap bit (ne_eqb (one (model t) j) v (λ e. omega (arith, e, w.0, h))), ap bit (ne_eqb (two (model t) j) v (λ e. omega (arith, e, w.1, h)))),
)
