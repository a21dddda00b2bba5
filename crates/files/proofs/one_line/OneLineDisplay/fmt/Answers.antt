-- One more character is written; at the end all are.
use Rattle.std.proofs.Common.{subst, rules}
use Rattle.std.specs.Fmt.{HasWritten}
use Rattle.std.proofs.lemmas.Grind.{put_two}
use Rattle.std.proofs.lemmas.Iterator.{YieldsList-from_chars}
use Rattle.std.proofs.lemmas.Iterator.Consumers.{YieldsList-end}
use Rattle.files.proofs.Characters.{one_more, all_shown}
use Rattle.files.proofs.one_line.OneLineDisplay.fmt.Goals as goal

pub loop-c-preserved : goal.loop-c-preserved
loop-c-preserved g c p =
    put_two _ _ c.loop-c.f _ _ _ _ (c.loop-c.invariant p) (search rules) (one_more c.loop-c.yielded c.in-Some.c c.shown.result c.shown.ensures)

pub returns-clause-writes : goal.returns-clause-writes
returns-clause-writes g c p q =
    let e = YieldsList-end (YieldsList-from_chars {s = c.into_iter-c-iterator.result} c.args.self.now.0.now (search rules) (search rules)) c.loop-c.yielded c.loop-c.c-iterator c.loop-c.yielded_by c.next.result c.next.new.self c.in-None.is c.next.ensures.steps in
    subst (λ x. HasWritten g.W.Write.write_str_gives c.args.f.now x c.loop-c.f) (all_shown c.loop-c.yielded _ e.0) (c.loop-c.invariant p)
