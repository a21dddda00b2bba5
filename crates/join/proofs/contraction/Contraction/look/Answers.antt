-- The steps of the proof of `look` that are not found by search.
use Rattle.std.proofs.Common.{◌≡◌, pos, sym, ap, ◌∙◌, subst, arith, w64, to_z, of_z}
use Rattle.std.proofs.lemmas.Int.{ints}
use Rattle.road.specs.Counts.{cut}
use Rattle.road.specs.Model.{marked}
use Rattle.join.specs.Joins.{◌⊞◌, single}
use Rattle.join.specs.Problems.{town_in, start_in, reached_in}
use Rattle.join.specs.Prices.{extra_in}
use Rattle.join.specs.Classes.{way_in}
use Rattle.join.specs.Amounts.{amount}
use Rattle.join.specs.Potentials.{slack}
use Rattle.join.specs.Turns.{lengths_at, potential_at, Charged}
use Rattle.join.proofs.Looking.{look_better, look_room, look_charge}
use Rattle.join.proofs.contraction.Contraction.look.Goals as goal

pub returns-in-Some : goal.returns-in-Some
returns-in-Some c =
    let b = c.least-b.result in
    let e = c.extra_for-drives.ensures in
    let w = way_in c.args.self.now.classes.now in
    let d = c.in-Some.ensures in
    let k = c.in-Some.k in (
      look_better c.args.self.now.prices.now c.args.self.now.level.now c.args.self.now.classes.now b c.args.self.now.pass c.args.self.now.classed c.args.self.now.merged
          c.least-b.ensures.lowest c.least-b.ensures.below (marked c.class_of-marks.result) c.class_of-marks.ensures
          k c.inner_end-x.result c.outer_end.result (d.0, sym (ap (λ f. f k) e) ∙ d.1, d.2) c.inner_end-x.ensures.is c.outer_end.ensures.is
          (marked c.lead_on.result) (c.lead_on.ensures ∙ ap (λ J. (J ⊞ (w b ⊞ w c.inner_end-x.result)) ⊞ single k) e),
      tt,
    )

pub least_slack-requires-clause-room : goal.least_slack-requires-clause-room
least_slack-requires-clause-room c =
    look_room c.args.self.now.prices.now c.args.self.now.level.now c.args.self.now.classes.now c.least-b.result c.args.self.now.pass c.args.self.now.classed c.args.self.now.merged
    c.least-b.ensures.lowest c.least-b.ensures.below (marked c.class_of-marks.result) c.class_of-marks.ensures

pub look_inside-requires-clause-none : goal.look_inside-requires-clause-none
look_inside-requires-clause-none c k h = sym (ap (λ Z. cut (town_in c.args.self.now.prices.now.problem) Z k) c.class_of-marks.ensures) ∙ c.in-None.ensures k h

pub returns-in-Some-least_slack : goal.returns-in-Some-least_slack
returns-in-Some-least_slack c =
    let p = c.args.self.now.prices.now.problem in
    let q = c.args.self.now.prices.now in
    let v = c.args.self.now.level.now in
    let b = c.least-b.result in
    let Z = marked c.class_of-marks.result in
    let d = c.in-Some-least_slack.ensures in
    let k = d.0 in
    let e = c.extra_for-drives.ensures in
    let z : to_z w64 (of_z w64 c.in-Some-least_slack.charge) ≡ pos (slack (town_in p) (lengths_at v) (potential_at v) b Z k) = omega (arith, ints, d.2) in
    let r = look_charge q v c.args.self.now.classes.now b c.args.self.now.pass c.args.self.now.classed c.args.self.now.merged c.least-b.ensures.lowest c.least-b.ensures.below Z c.class_of-marks.ensures
    k (λ j h u. sym (ap (λ f. f j) e) ∙ c.in_default.ensures j h u) d.1 d.3 in
    let charged = subst (λ n. Charged (town_in p) (start_in p) (reached_in p) (lengths_at v) (potential_at v) (extra_in q) Z n b) (sym (ap amount z)) r in
    ((charged, c.least-b.ensures.below), (c.class_of-marks.ensures, c.in_ok-legs.ensures))
