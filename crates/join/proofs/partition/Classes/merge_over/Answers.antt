-- The steps of the proof of `merge_over` that are not found by search.
use Rattle.std.proofs.Common.{◌≡◌, ◌<◌, sym, refl, ap, ◌∙◌, arith}
use Rattle.std.proofs.lemmas.Bool.{eqb-true}
use Rattle.road.specs.Model.{marked}
use Rattle.road.proofs.Models.{size_model}
use Rattle.join.specs.Joins.{◌⊞◌, single}
use Rattle.join.specs.Weights.{town_of, lengths_of}
use Rattle.join.specs.Classes.{label_in}
use Rattle.join.proofs.StreetSets.{ends_below}
use Rattle.join.proofs.Progress.{progress_merge}
use Rattle.join.proofs.Uniting.{leg_ends, ends_same, label_small, link_is, absorbed_classed, absorbed_kept, absorbed_both}
use Rattle.join.proofs.partition.Classes.merge_over.Goals as goal

pub returns-then-from-to-clause-merged : goal.returns-then-from-to-clause-merged
returns-then-from-to-clause-merged c =
    let t = town_of c.args.streets.now in
    let x = c.begin_of-x.result in
    let y = c.end_of-y.result in
    let side = leg_ends t c.leg_to_smaller-leg.result c.args.k x y c.leg_to_smaller-leg.ensures c.begin_of-x.ensures.is c.end_of-y.ensures.is in
    λ _. ends_same t c.args.k x y (label_in c.args.self.now) side (sym c.if-from-to.true)

pub absorb-requires : goal.absorb-requires
absorb-requires c =
    let w = c.args.streets.now in
    let ends = ends_below w.town.now in (
      label_small (town_of w) (lengths_of w) c.args.self.now c.end_of-y.result ends c.requires.classed (omega (arith, c.end_of-y.ensures.below, w.town.now.most)),
      label_small (town_of w) (lengths_of w) c.args.self.now c.begin_of-x.result ends c.requires.classed (omega (arith, c.begin_of-x.ensures.below, w.town.now.most)),
    )

pub returns : goal.returns
returns c =
    let w = c.args.streets.now in
    let q = c.args.self.now in
    let k = c.args.k in
    let x = c.begin_of-x.result in
    let y = c.end_of-y.result in
    let link = marked c.xor-link.result in
    let d = c.absorb.new.self in
    let hx : x < 100 = omega (arith, c.begin_of-x.ensures.below, w.town.now.most) in
    let hy : y < 100 = omega (arith, c.end_of-y.ensures.below, w.town.now.most) in
    let z : lengths_of w k ≡ 0 = eqb-true (lengths_of w k) 0 (sym c.is_free.ensures ∙ c.if-not-is_free.false) in
    let side = leg_ends (town_of w) c.leg_to_smaller-leg.result k x y c.leg_to_smaller-leg.ensures c.begin_of-x.ensures.is c.end_of-y.ensures.is in
    let r = link_is (town_of w) (lengths_of w) q k x y (marked c.flip-there.result) link c.requires.classed (omega (arith, size_model w.town.now, c.requires.below)) z side hx hy
    (c.flip-there.ensures ∙ ap (λ J. J ⊞ single k) c.way_to.ensures) (c.xor-link.ensures ∙ ap (λ J. marked c.flip-there.result ⊞ J) c.way_to-2.ensures) in
    let apart : label_in q x ≡ label_in q y → ⊥ = λ e. c.if-from-to.false (sym e) in
    record {
      classed = absorbed_classed (label_in q y) (label_in q x) link q d c.absorb.ensures (town_of w) (lengths_of w) c.requires.classed r.0 r.1;
      kept = absorbed_kept (label_in q y) (label_in q x) link q d c.absorb.ensures;
      progress = progress_merge (town_of w) (ends_below w.town.now) q d x y link hx hy apart c.absorb.ensures (lengths_of w);
      merged = λ _. ends_same (town_of w) k x y (label_in d) side (absorbed_both (label_in q y) (label_in q x) link q d c.absorb.ensures x y hx hy refl refl);
    }
