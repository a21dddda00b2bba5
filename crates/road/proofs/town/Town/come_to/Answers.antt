-- The steps of the proof of `come_to` that are not found by search.
use Rattle.std.proofs.Common.{false, rules, tests, eqb, arith}
use Rattle.road.specs.Model.{model, marked}
use Rattle.road.proofs.FromFn.{holds_each}
use Rattle.road.proofs.Models.{size_model}
use Rattle.road.proofs.Growth.{grown_start}
use Rattle.road.proofs.Reached.{reached_is}
use Rattle.road.proofs.town.Town.come_to.Goals as goal

pub loop-init : goal.loop-init
loop-init c =
    let t = c.args.self.now in
    grown_start (model t) t.depot c.from_fn-marks.result (omega arith) c.from_fn-marks.ensures.items.long
    (λ v h. holds_each (λ v. eqb v t.depot) c.from_fn-marks.ensures.items (λ v b q l e. search (rules, tests)) v false h)

pub returns : goal.returns
returns c =
    let t = c.args.self.now in
    let grown = c.grow.ensures.grown in
    let closed = (c.grow.ensures.tried.same c.loop-test.false).1 in
    reached_is (model t) t.depot (marked c.grow.new.marks) grown.start (λ k h. closed k (omega (arith, size_model t))) grown.come
