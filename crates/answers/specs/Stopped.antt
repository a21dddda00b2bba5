-- Why a town gets no plan, as why a text gets no answer. Assumes nothing: these are definitions.
use Rattle.text.specs.declared.text_error.TextError.TheVariants.{Memory}
use Rattle.round.specs.declared.no_plan.NoPlan.{NoPlan}
use Rattle.round.specs.declared.no_plan.NoPlan.TheVariants.{Refused as RefusedPlan, Memory as MemoryPlan}
use Rattle.answers.specs.declared.no_answer.NoAnswer.{NoAnswer}
use Rattle.answers.specs.declared.no_answer.NoAnswer.TheVariants.{Text, Refused}

abbrev pub stopped : NoPlan → NoAnswer
stopped (RefusedPlan r) = Refused r
stopped (MemoryPlan e) = Text Memory
