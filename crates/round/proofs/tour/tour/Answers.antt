-- The steps of the proof of `tour` that are not found by search.
use Rattle.std.proofs.Common.{vec_items}
use Rattle.std.proofs.lemmas.Result.{IfOk-weaker}
use Rattle.join.specs.Laws.{town_of, depot_of}
use Rattle.pairs.specs.Pairings.{depot_extra}
use Rattle.round.specs.Tours.{count_in, ClosedTour, Tour}
use Rattle.round.proofs.Driven.{extra_even, extra_tour}
use Rattle.round.proofs.tour.tour.Goals as goal

pub closed_tour-requires : goal.closed_tour-requires
closed_tour-requires c = rw c.new.ensures (extra_even c.args.least.now c.drives_to_depot.result c.drive_counts-left.result c.drives_to_depot.ensures c.drive_counts-left.ensures)

pub returns : goal.returns
returns c =
    let s = c.args.least.now in
    let xs = c.drive_counts-left.result in
    let d = count_in c.closed_tour.new.left in
    IfOk-weaker c.closed_tour.result (λ ls. ClosedTour (town_of s) (count_in xs) d (depot_of s) (vec_items ls)) (λ ls. Tour (town_of s) (depot_of s) (depot_extra s) (vec_items ls))
    (λ ls. extra_tour s c.drives_to_depot.result xs c.drives_to_depot.ensures c.drive_counts-left.ensures d (vec_items ls)) (rw c.new.ensures at c.closed_tour.ensures)
