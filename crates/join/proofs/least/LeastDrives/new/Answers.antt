-- The steps of the proof of `new` that are not found by search.
use Rattle.std.proofs.Common.{true, false, sym, refl, ap, ◌∙◌, subst, arith}
use Rattle.std.proofs.lemmas.List.{get_or-replicate}
use Rattle.road.specs.Model.{model}
use Rattle.road.proofs.Reached.{reached_start}
use Rattle.join.specs.Borders.{Stars}
use Rattle.join.proofs.Entering.{double_most, tree_finds, come_two, charge_small, certified_double}
use Rattle.join.proofs.Parts.{least_drives}
use Rattle.join.proofs.least.LeastDrives.new.Goals as goal

pub invariant_of-streets : goal.invariant_of-streets
invariant_of-streets c =
    let d = c.double_lengths-costs.ensures in record {
      long = d.long;
      whole = d.whole;
      most = λ k. omega (arith, ap (λ f. f k) d.is, double_most c.args.town.now.town k);
    }

pub invariant_of-problem : goal.invariant_of-problem
invariant_of-problem c =
    let s = c.args.town.now in
    let d = c.double_lengths-costs.ensures in
    let tree = c.in_ok-tree.tree in
    let r = tree_finds s tree c.in_ok-tree.ensures.0 c.in_ok-tree.ensures.1 in record {
      places = tree.places;
      rows = subst (λ xs. Stars (model s.town) xs s.town.crossings) (sym c.as_slice.ensures.value) c.in_ok-stars.ensures;
      even = λ k. omega (arith, ap (λ f. f k) d.is);
      home = r s.town.depot ∙ reached_start (model s.town) s.town.depot;
      ones = λ k h. r _ ∙ s.reached k h;
      twos = λ k h. r _ ∙ come_two s k h;
    }

pub solve-requires : goal.solve-requires
solve-requires c = record { from = c.in_ok-tree.ensures.0; spans = c.in_ok-tree.ensures.1; found = refl }

pub invariant_of-result : goal.invariant_of-result
invariant_of-result c =
    let e = c.in_ok-prices.ensures in
    let q = c.in_ok-prices.field-0.prices in
    let same = c.double_lengths-costs.ensures.is in
    let k = certified_double _ q _ e.problem e.shown same (λ k. get_or-replicate 300 k true false) in record {
      places = c.in_ok-tree.tree.places;
      rows = q.rows;
      found = tree_finds c.args.town.now c.in_ok-tree.tree c.in_ok-tree.ensures.0 c.in_ok-tree.ensures.1;
      small = charge_small _ q _ e.problem e.shown same;
      joins = k.joins;
      costs = k.costs;
      odd = k.odd;
      bears = k.bears;
      sums = k.sums;
      some = k.some;
      few = k.few;
    }

pub returns : goal.returns
returns c = (refl, least_drives _)
