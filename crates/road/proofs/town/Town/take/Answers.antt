-- The steps of the proof of `take` that are not found by search.
use Rattle.std.proofs.Common.{sym, subst}
use Rattle.road.specs.Limits.{Within}
use Rattle.road.proofs.Numbers.{street_read}
use Rattle.road.proofs.town.Town.take.Goals as goal

pub invariant_of-result : goal.invariant_of-result
invariant_of-result c =
    let n = c.args.crossings in
    let same = street_read n c.args.numbers.now c.read_streets-streets.result c.read_streets-streets.ensures.streets in
    let crossings = c.in_ok-check_crossings.ensures.1 in
    let within = c.in_ok-check_streets.ensures.1 in record {
      some = crossings.0;
      most = crossings.1;
      home = c.in_ok-check_depot.ensures.1;
      few = c.in_ok-check_numbers.ensures.1;
      places = c.read_streets-streets.ensures.places;
      within = λ k h. subst (Within n) (sym (same k h)) (within k h);
    }
