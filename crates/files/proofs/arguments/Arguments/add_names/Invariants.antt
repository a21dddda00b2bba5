-- The names so far.
use Rattle.std.proofs.Common.{◌≡◌, ◌++◌, map, take, string_bytes}
use Rattle.files.proofs.arguments.Arguments.add_names.Given as goal

abbrev pub invariant-loop-arg : goal.invariant-loop-arg
invariant-loop-arg l = record {
  options : l.self.options ≡ l.initial.self.options;
  names : map (λ o. o.now) l.self.names.items ≡ map (λ o. o.now) l.initial.self.names.items ++ map string_bytes (take l.arg-index l.after);
}
