-- The steps of the proof of `close` that are not found by search.
use Rattle.std.proofs.Common.{refl, arith}
use Rattle.road.specs.Model.{marked}
use Rattle.road.proofs.Models.{size_model}
use Rattle.join.specs.Weights.{ground, side_of}
use Rattle.join.proofs.Closing.{close_lone, close_circuit}
use Rattle.join.proofs.cut.Cut.close.Goals as goal

pub returns : goal.returns
returns c =
    let t = ground c.args.self.now in
    let e = size_model c.args.self.now.town.now in
    let r = c.in_ok-j.ensures in
    let o = c.exit_at-out.ensures in
    let b = c.exit_at-back.ensures in
    let s = c.search.ensures in
    close_circuit t (side_of c.args.self.now) (marked c.args.drives.now) (marked c.args.base.now) (marked c.outside.result) c.args.k c.exit_at-out.result.outer
    c.search.new.self o.outer (λ i h. c.outside.ensures i (omega (arith, e))) s.grown s.from (λ i h. s.closed i (omega (arith, e)))
    (record { out = c.exit_at-out.result; back = c.exit_at-back.result; far = c.path_to-far.result.now }) c.in_ok-j.j o.street (omega (arith, e, c.requires.below))
    c.requires.own.0 c.requires.own.1 o.inner refl b.street (omega (arith, e, r.0)) r.1 b.inner b.outer c.path_to-far.ensures (o.below.0, o.below.1, b.below.0)

pub returns-in_err-j : goal.returns-in_err-j
returns-in_err-j c =
    let t = ground c.args.self.now in
    let e = size_model c.args.self.now.town.now in
    let s = c.search.ensures in
    rw c.from_residual.ensures (
      marked c.search.new.self.marks,
      close_lone t (side_of c.args.self.now) (marked c.args.drives.now) (marked c.args.base.now) (marked c.outside.result) c.args.k c.exit_at-out.result.outer
          c.search.new.self c.exit_at-out.ensures.outer (λ i h. c.outside.ensures i (omega (arith, e))) s.grown s.from (λ i h. s.closed i (omega (arith, e)))
          (λ i h. c.in_err-j.ensures i (omega (arith, e))),
    )
