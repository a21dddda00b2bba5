-- The step of the proof of `grow_within` that is not found by search.
use Rattle.std.proofs.Common.{◌≡◌, true, false, pos, to_z, of_z, w64, sym, ◌+◌, ◌∙◌, subst, arith, rules}
use Rattle.std.proofs.lemmas.List.{get_or-replicate}
use Rattle.std.proofs.lemmas.Int.{ints, to_z-of_z}
use Rattle.join.specs.Weights.{lengths_of}
use Rattle.join.specs.Components.{ClosedWithin}
use Rattle.join.proofs.Growing.{tried_on, within_more}
use Rattle.join.proofs.component.Component.grow_within.Goals as goal
use Rattle.join.proofs.component.Component.grow_within.Goals.{then-length-bound, else-length-bound}

pub loop-k-preserved : goal.loop-k-preserved
loop-k-preserved c =
    let s = c.args.streets.now in
    let k = c.loop-k.k in
    let bound = to_z w64 (of_z w64 c.args.bound) in
    let ms = c.loop-k.self.marks in
    let (grown, from, tried) = c.loop-k.invariant in
    elim c.if-length-bound.branch [
      | then-length-bound w ↦
          let r = w.grow_over-more in
          let any = get_or-replicate 300 k true false (omega (arith, c.loop-k-test.true, s.town.now.few)) in
          rw (w.self-is, w.more-is) (
            r.ensures.grown,
            r.ensures.from ∙ from,
            tried_on c.args.self.now.marks ms r.new.self.marks c.loop-k.more r.result tried r.ensures.tried
                (λ same old new. subst (λ xs. ClosedWithin s bound xs (k + 1)) (sym same) (within_more s bound ms k old (λ _. new any))),
          )
      | else-length-bound w ↦
          let is : to_z w64 (of_z w64 c.length.result) ≡ pos (lengths_of s k) = to_z-of_z w64 c.length.result (search rules) ∙ c.length.ensures.is in
          rw (w.self-is, w.more-is) (
            grown,
            from,
            record {
              less = tried.less;
              same = λ e. ((tried.same e).0, within_more s bound ms k (tried.same e).1 (λ le. absurd (omega (arith, ints, is, le, w.if-length-bound.false))));
            },
          )
    ]
