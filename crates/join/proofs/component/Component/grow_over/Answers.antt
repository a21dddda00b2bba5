-- The steps of the proof of `grow_over` that are not found by search.
use Rattle.std.proofs.Common.{◌<◌, true, sym, refl, ap, ◌∙◌, arith}
use Rattle.std.proofs.lemmas.Bool.{both_ways}
use Rattle.road.specs.Counts.{size}
use Rattle.road.specs.Model.{model, marked}
use Rattle.road.proofs.Models.{size_model}
use Rattle.road.proofs.Growth.{unmarked_set}
use Rattle.join.specs.Joins.{◌⊞◌, single}
use Rattle.join.proofs.Growing.{out_y, grown_more}
use Rattle.join.proofs.component.Component.grow_over.Goals as goal

pub returns : goal.returns
returns c =
    let t = model c.args.graph.now.town.now in
    let A = marked c.args.graph.now.set.now in
    let s = c.args.self.now in
    let k = c.args.k in
    let x = c.inner_end-x.result in
    let y = c.outer_end-y.result in
    let h : k < size t = omega (arith, size_model c.args.graph.now.town.now, c.requires.below) in
    let own = c.if-not-graph-k.false in
    let cuts = sym c.has.ensures ∙ c.if-not-has.false in
    let ex = c.inner_end-x.ensures.is in
    let ey = c.outer_end-y.ensures.is in
    record {
      grown = grown_more t A s c.requires.grown k h own cuts x y ex ey c.outer_end-y.ensures.below c.flip.result (c.flip.ensures ∙ ap (λ J. J ⊞ single k) c.path_to.ensures) _ refl refl refl;
      from = refl;
      tried = record {
        less = λ _. unmarked_set s.marks y s.places c.outer_end-y.ensures.below (out_y t A s c.requires.grown k h own cuts x y ex ey);
        same = λ e. absurd (both_ways true e refl);
      };
    }
