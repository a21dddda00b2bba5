-- The plan of a town, before it is put behind the town's text. Assumes nothing: these are definitions.
use Rattle.std.specs.Prelude.{◌≡◌, ℕ, ◌≤◌, List, Some, None, Option, string_bytes}
use Rattle.road.specs.declared.leg.Leg.{Leg}
use Rattle.road.specs.Roads.{Town, far, all_streets}
use Rattle.road.specs.Counts.{size}
use Rattle.road.specs.Refusals.{listed}
use Rattle.sheet.specs.Sheet.{Part}
use Rattle.sheet.specs.Numbers.{AllMarked}
use Rattle.text.specs.Plans.{planned_text}
use Rattle.round.specs.declared.no_plan.NoPlan.{NoPlan}
use Rattle.round.specs.declared.no_plan.NoPlan.TheVariants.{Refused, Memory}
use Rattle.round.specs.Plans.{Agreed}
use Rattle.files.specs.declared.answer.Reply.{Reply}
use Rattle.answers.specs.Answers.{lengths_of}

-- no refusal is due, the town is within its limits, and the text is that of a round and a sheet that agree
pub record Planned (due : Option (ℕ × ℕ)) (t : Town) (depot : ℕ) (a : Reply) : Type 0 where
  pub none : due ≡ None
  pub legs : List Leg
  pub parts : List Part
  pub agreed : Agreed t depot legs parts
  pub marked : AllMarked t.crossings parts
  pub written : string_bytes a.text ≡ planned_text legs (far t legs) (all_streets t.streets) parts
  pub few : t.crossings ≤ 100
  pub small : size t ≤ 300
  pub most : all_streets t.streets ≤ 30000000
  pub lengths : a.lengths ≡ Some (lengths_of t (far t legs))

-- the refusal that is due, or want of memory
abbrev pub TurnedAway : Option (ℕ × ℕ) → NoPlan → Type 0
TurnedAway due (Refused r) = due ≡ Some (listed r)
TurnedAway due (Memory e) = Unit {0}
