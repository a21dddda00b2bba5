-- The plan of a town, behind its text, is read as a shortest round and a sheet that agrees with it.
use Rattle.std.proofs.Common.{refl}
use Rattle.text.specs.Format.{town_numbers}
use Rattle.files.specs.declared.answer.Reply.{Reply}
use Rattle.answers.proofs.Planned.{behind_town, plan_tells}
use Rattle.answers.proofs.plan.plan_answer.Goals as goal

pub returns-clause-planned : goal.returns-clause-planned
returns-clause-planned c = behind_town c.args.text.now (town_numbers c.in_ok-given.given) c.in_ok-plan.plan _ c.in_ok-given.ensures c.in_ok-plan.ensures c.in_ok-behind.ensures refl

pub returns-clause-shortest : goal.returns-clause-shortest
returns-clause-shortest c =
    let a : Reply = record { text = c.in_ok-behind.field-0; lengths = c.in_ok-plan.plan.lengths } in
    plan_tells c.args.text.now a (behind_town c.args.text.now (town_numbers c.in_ok-given.given) c.in_ok-plan.plan a c.in_ok-given.ensures c.in_ok-plan.ensures c.in_ok-behind.ensures refl)
