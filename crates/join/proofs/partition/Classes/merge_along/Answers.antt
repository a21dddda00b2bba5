-- The steps of the proof of `merge_along` that are not found by search.
use Rattle.std.proofs.Common.{◌≡◌, sym, ap, ◌∙◌, subst, ⊎_elim, arith}
use Rattle.std.proofs.lemmas.Bool.{cases_eq, cases_Bool}
use Rattle.road.specs.Counts.{one, two}
use Rattle.join.specs.Borders.{street_at}
use Rattle.join.specs.Odd.{streets_of}
use Rattle.join.specs.Weights.{town_of, lengths_of}
use Rattle.join.specs.Classes.{label_in}
use Rattle.join.proofs.Borders.{street_found}
use Rattle.join.proofs.StreetSets.{ends_below}
use Rattle.join.proofs.Uniting.{kept_on}
use Rattle.join.proofs.partition.Classes.merge_along.Goals as goal

pub loop-leg-preserved : goal.loop-leg-preserved
loop-leg-preserved c =
    let t = town_of c.args.streets.now in
    let l = lengths_of c.args.streets.now in
    let ls = c.args.legs.now in
    let n = c.loop-leg.leg-index in
    let i = c.loop-leg.invariant in
    let m = c.merge_over.ensures in
    let d = c.merge_over.new.self in
    let ends = ends_below c.args.streets.now.town.now in (
      m.classed,
      kept_on c.args.self.now c.loop-leg.self d i.1 m.kept,
      λ j h z. ⊎_elim
          (λ e. subst (λ x. label_in d (one t (street_at ls x)) ≡ label_in d (two t (street_at ls x))) (sym e) (m.merged (ap (λ x. l (street_at ls x)) (sym e) ∙ z)))
          (λ ne. m.kept.labels (one t (street_at ls j)) (two t (street_at ls j)) (ends (street_at ls j)).0 (ends (street_at ls j)).1 (i.2 j (omega arith) z))
          (cases_eq j n),
      λ g k p. m.progress g k (i.3 g k p),
    )

pub returns : goal.returns
returns c =
    let t = town_of c.args.streets.now in
    let l = lengths_of c.args.streets.now in
    let ls = c.args.legs.now in
    let i = c.loop-leg.invariant in
    let d = c.loop-leg.self in
    let ends = ends_below c.args.streets.now.town.now in
    record {
      classed = i.0;
      kept = i.1;
      progress = i.3;
      merged = λ k h z. ⊎_elim
          (λ y. let r = street_found ls k y in subst (λ x. label_in d (one t x) ≡ label_in d (two t x)) r.2 (i.2 r.0 (omega (arith, r.1, c.loop-leg-test.false)) (ap l r.2 ∙ z)))
          (λ y. i.1.labels (one t k) (two t k) (ends k).0 (ends k).1 (c.requires.others k h z y))
          (cases_Bool (streets_of ls k));
    }
