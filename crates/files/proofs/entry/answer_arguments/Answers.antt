-- The arguments in hand are those that were given.
use Rattle.std.proofs.Common.{◌≡◌, map, string_bytes, drop, IsOkAnd, sym, subst}
use Rattle.std.specs.Vec.Iter.{into_iter_items}
use Rattle.files.specs.Answered.{AllAnswered}
use Rattle.files.proofs.Served.{of_given}
use Rattle.files.proofs.entry.answer_arguments.Goals as goal

pub returns : goal.returns
returns g c =
    of_given (λ xs. AllAnswered (g.R.Texts.holds c.args.rt.now) (g.A.Answer.answers c.args.answer.now) (map (λ o. o.now) c.args.program.now.options.now) (map string_bytes xs))
    (λ a. drop 1 (into_iter_items a)) c.as_slice.result.now c.args.args c.answer_named.result
    (subst (λ v. IsOkAnd c.args.args (λ a. v ≡ drop 1 (into_iter_items a))) (sym c.as_slice.ensures.value) c.in_ok-args.ensures) c.answer_named.ensures
