-- What the loop of `take_turns` keeps.
use Rattle.std.proofs.Common.{◌-◌, length, vec_items}
use Rattle.join.specs.Problems.{town_in}
use Rattle.join.specs.Passes.{Run, Listed}
use Rattle.join.proofs.level.Level.take_turns.Given as goal

abbrev pub invariant-loop-found : goal.invariant-loop-found
invariant-loop-found l = Run l.prices l.classes (vec_items l.stages) l.self × Listed (town_in l.prices.problem) (vec_items l.stages) (vec_items l.borders)

abbrev pub decreases-loop-found : goal.decreases-loop-found
decreases-loop-found l = 300 - length (vec_items l.stages)
