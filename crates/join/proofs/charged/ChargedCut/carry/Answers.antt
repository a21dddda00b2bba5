-- The steps of the proof of `carry` that are not found by search.
use Rattle.std.proofs.Common.{◌≤◌, subst, arith, rules}
use Rattle.road.specs.Counts.{size}
use Rattle.road.specs.Model.{marked}
use Rattle.road.proofs.Models.{size_model}
use Rattle.join.specs.Amounts.{amount}
use Rattle.join.specs.Problems.{town_in, start_in, reached_in}
use Rattle.join.specs.Prices.{extra_in}
use Rattle.join.specs.Turns.{lengths_at, potential_at}
use Rattle.join.specs.Circuits.{AllLone}
use Rattle.join.proofs.Lone.{one_few, lone_few}
use Rattle.join.proofs.Exchanging.{over_fewer, over_cheaper, exit_reached}
use Rattle.join.proofs.charged.ChargedCut.carry.Goals as goal

pub returns-then-outs-le1 : goal.returns-then-outs-le1
returns-then-outs-le1 c =
    let p = c.args.self.now.prices.now.problem in
    let v = c.args.self.now.level.now in
    let s = c.args.self.now.stage.now in
    let Z = marked s.marks in
    let J = marked c.args.found.drives in
    let u = c.args.found.crossing in
    let o = c.requires in
    let few = one_few (town_in p) (start_in p) (lengths_at v) (potential_at v) s.base Z (amount s.charge) (extra_in c.args.self.now.prices.now s.base) c.args.self.now.held.stage
    c.args.self.now.held.base u J o.joins (subst (λ n. n ≤ 1) c.outs.ensures c.if-outs-le1.true) in
    over_cheaper (town_in p) (start_in p) (reached_in p) (lengths_at v) (potential_at v) Z (amount s.charge) u J o few

pub returns-in-Lower : goal.returns-in-Lower
returns-in-Lower c =
    let r = c.in-Some.ensures in
    let s = c.in-Lower.ensures c.loop-circuit.found.crossing c.loop-circuit.invariant.1.joins in
    let f = c.in-Some.circuit in
    record {
      met = exit_reached c.args.self.now.prices.now.problem (marked c.args.self.now.stage.now.marks) (marked c.loop-circuit.found.drives) f.out.street f.out.inner f.out.outer r.out;
      joins = s.0;
      cheap = s.1;
    }

pub loop-circuit-smaller : goal.loop-circuit-smaller
loop-circuit-smaller c = let s = c.in-Fewer.ensures c.loop-circuit.found.crossing c.loop-circuit.invariant.1.joins in omega (arith, s.1)

pub loop-circuit-preserved : goal.loop-circuit-preserved
loop-circuit-preserved c =
    let p = c.args.self.now.prices.now.problem in
    let v = c.args.self.now.level.now in
    let s = c.args.self.now.stage.now in (
      search rules,
      over_fewer (town_in p) (start_in p) (reached_in p) (lengths_at v) (potential_at v) (marked s.marks) (amount s.charge) c.loop-circuit.found.crossing
          (marked c.loop-circuit.found.drives) (marked c.in-Fewer.fewer) c.loop-circuit.invariant.1 (c.in-Fewer.ensures c.loop-circuit.found.crossing c.loop-circuit.invariant.1.joins),
    )

pub returns : goal.returns
returns c =
    let p = c.args.self.now.prices.now.problem in
    let v = c.args.self.now.level.now in
    let s = c.args.self.now.stage.now in
    let Z = marked s.marks in
    let J = marked c.loop-circuit.found.drives in
    let u = c.loop-circuit.found.crossing in
    let o = c.loop-circuit.invariant.1 in
    let r = c.in_default.ensures in
    let lone : AllLone (town_in p) Z J (marked c.extra_for-base.result.now) (size (town_in p)) = λ k h. r k (omega (arith, size_model p.streets.town.now)) in
    let few = lone_few (town_in p) (start_in p) (lengths_at v) (potential_at v) s.base Z (amount s.charge) (extra_in c.args.self.now.prices.now s.base) c.args.self.now.held.stage
    c.args.self.now.held.base u J o.joins (subst (λ B. AllLone (town_in p) Z J B (size (town_in p))) c.extra_for-base.ensures lone) in
    over_cheaper (town_in p) (start_in p) (reached_in p) (lengths_at v) (potential_at v) Z (amount s.charge) u J o few
