-- One more is an option or a name.
use Rattle.std.proofs.Common.{◌≡◌, true, false, not, string_bytes, sym, ap, ◌∙◌}
use Rattle.files.specs.Arguments.{is_option}
use Rattle.files.proofs.Sorting.{passes, fails}
use Rattle.files.proofs.arguments.Arguments.sorted.Goals as goal
use Rattle.files.proofs.arguments.Arguments.sorted.Goals.{then-is_option+in_ok-push, else-is_option+in_ok-push-2}

pub loop-arg-preserved : goal.loop-arg-preserved
loop-arg-preserved c =
    let xs = c.args.before.now in
    let i = c.loop-arg.arg-index in
    let x = c.arg-item.result in
    let tested = ap is_option (sym c.as_str-arg.ensures.value) ∙ sym c.is_option.ensures in
    elim c.if-is_option.branch [
      | then-is_option+in_ok-push w ↦ let yes : is_option (string_bytes x) ≡ true = tested ∙ w.if-is_option.true in record {
        options = passes string_bytes is_option xs i x c.arg-item.is c.loop-arg-test.true c.as_str-arg.result _ _ yes c.as_str-arg.ensures.value (ap (λ v. v.items) w.options-is ∙ w.in_ok-push.ensures.items) c.loop-arg.invariant.options;
        names = fails string_bytes (λ y. not (is_option y)) xs i x c.arg-item.is c.loop-arg-test.true _ _ (ap not yes) (ap (λ v. v.items) w.names-is) c.loop-arg.invariant.names;
      }
      | else-is_option+in_ok-push-2 w ↦ let no : is_option (string_bytes x) ≡ false = tested ∙ w.if-is_option.false in record {
        options = fails string_bytes is_option xs i x c.arg-item.is c.loop-arg-test.true _ _ no (ap (λ v. v.items) w.options-is) c.loop-arg.invariant.options;
        names = passes string_bytes (λ y. not (is_option y)) xs i x c.arg-item.is c.loop-arg-test.true c.as_str-arg.result _ _ (ap not no) c.as_str-arg.ensures.value (ap (λ v. v.items) w.names-is ∙ w.in_ok-push-2.ensures.items) c.loop-arg.invariant.names;
      }
    ]
