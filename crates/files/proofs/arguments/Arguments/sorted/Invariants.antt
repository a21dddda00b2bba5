-- The options and the names so far.
use Rattle.std.proofs.Common.{◌≡◌, not, map, filter, take, string_bytes}
use Rattle.files.specs.Arguments.{is_option}
use Rattle.files.proofs.arguments.Arguments.sorted.Given as goal

abbrev pub invariant-loop-arg : goal.invariant-loop-arg
invariant-loop-arg l = record {
  options : map (λ o. o.now) l.options.items ≡ filter is_option (map string_bytes (take l.arg-index l.before));
  names : map (λ o. o.now) l.names.items ≡ filter (λ x. not (is_option x)) (map string_bytes (take l.arg-index l.before));
}
