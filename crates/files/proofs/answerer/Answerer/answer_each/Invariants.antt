-- Where as many are answered as were read, all are.
use Rattle.std.proofs.Common.{◌≡◌, ◌≤◌, map, take, All}
use Rattle.files.specs.Answered.{Answered}
use Rattle.files.proofs.answerer.Answerer.answer_each.Given as goal

abbrev pub invariant-loop-name : goal.invariant-loop-name
invariant-loop-name g l = record {
  few : l.tally.answered ≤ l.name-index;
  all : l.tally.answered ≡ l.name-index → All (λ x. Answered (g.R.Texts.holds l.self.rt.now) (g.A.Answer.answers l.self.answer.now (map (λ o. o.now) l.self.options.now)) x.now) (take l.name-index l.names);
}
