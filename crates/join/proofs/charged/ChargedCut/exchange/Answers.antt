-- The steps of the proof of `exchange` that are not found by search.
use Rattle.std.proofs.Common.{ap, ◌∙◌, arith}
use Rattle.std.proofs.lemmas.Int.{ints}
use Rattle.road.specs.Model.{marked}
use Rattle.join.specs.Joins.{◌⊞◌, single}
use Rattle.join.specs.Amounts.{amount}
use Rattle.join.specs.Problems.{town_in, start_in}
use Rattle.join.specs.Prices.{extra_in}
use Rattle.join.specs.Classes.{way_in}
use Rattle.join.specs.Turns.{lengths_at, potential_at}
use Rattle.join.proofs.Exchanging.{exchange_lower, exchange_fewer}
use Rattle.join.proofs.charged.ChargedCut.exchange.Goals as goal

pub returns-then-cost-level : goal.returns-then-cost-level
returns-then-cost-level c v hJ =
    let a = c.args.self.now in
    let p = a.prices.now.problem in
    let s = a.stage.now in
    let b = s.base in
    let way = way_in a.classes.now in
    let f = c.args.circuit.now in
    let C = marked c.around-round.result in
    let O = c.lead_on-out.ensures ∙ ap (λ J. (J ⊞ (way b ⊞ way f.out.inner)) ⊞ single f.out.street) (c.xor-turned.ensures ∙ ap (λ J. J ⊞ C) c.extra_for.ensures) in (
      exchange_lower (town_in p) (start_in p) (lengths_at a.level.now) (potential_at a.level.now) b (marked s.marks) (amount s.charge) (extra_in a.prices.now b)
          a.held.stage v (marked c.args.drives.now) hJ way a.held.inside f c.requires C (marked c.lead_on-out.result) c.around-round.ensures O,
      omega (arith, ints, c.cost.ensures.is, c.if-cost-level.true, a.level.now.whole_potential f.out.outer),
    )

pub returns-else-cost-level : goal.returns-else-cost-level
returns-else-cost-level c v hJ =
    let a = c.args.self.now in
    let p = a.prices.now.problem in
    let s = a.stage.now in
    let b = s.base in
    let way = way_in a.classes.now in
    let f = c.args.circuit.now in
    let C = marked c.around-round.result in
    let O = c.lead_on-out.ensures ∙ ap (λ J. (J ⊞ (way b ⊞ way f.out.inner)) ⊞ single f.out.street) (c.xor-turned.ensures ∙ ap (λ J. J ⊞ C) c.extra_for.ensures) in
    exchange_fewer (town_in p) (start_in p) (lengths_at a.level.now) (potential_at a.level.now) b (marked s.marks) (amount s.charge) (extra_in a.prices.now b)
    a.held.stage v (marked c.args.drives.now) hJ way a.held.inside f c.requires C (marked c.lead_on-out.result) c.around-round.ensures O
    (omega (arith, ints, c.cost.ensures.is, c.if-cost-level.false, a.level.now.whole_potential f.out.outer)) (marked c.xor.result) c.xor.ensures
