-- The step of the proof of `first_sets` that is not found by search.
use Rattle.std.proofs.Common.{rules}
use Rattle.std.proofs.lemmas.Result.{IfOk-weaker}
use Rattle.join.proofs.Starting.{begun_collected}
use Rattle.join.proofs.first_prices.Start.first_sets.Goals as goal

pub returns : goal.returns
returns c = IfOk-weaker c.collect.result _ _ (λ v run. begun_collected c.args.self.now.problem.now (λ u d h e. search rules) (run tt) c.map.ensures.runs) c.collect.ensures.runs
