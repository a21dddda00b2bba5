-- The town, round and sheet of numbers that a text tells, and what is said of them. Assumes nothing: these are definitions.
use Rattle.std.specs.Prelude.{ℕ, Option}
use Rattle.road.specs.Roads.{Town}
use Rattle.road.specs.Numbers.{town_in, legs_in}
use Rattle.road.specs.Refusals.{town_refusal, plan_refusal}
use Rattle.sheet.specs.Numbers.{sheet_in}
use Rattle.sheet.specs.declared.word.Word.{Word}
use Rattle.sheet.specs.Words.{check_refusal, judged}
use Rattle.text.specs.Format.{TownNumbers, RoundNumbers}

abbrev pub town_of : TownNumbers → Town
town_of x = town_in x.crossings x.streets

-- 1 to 4: a town that is none
abbrev pub no_town : TownNumbers → Option (ℕ × ℕ)
no_town x = town_refusal x.crossings x.streets x.depot

-- 1 to 5: a town that cannot be planned
abbrev pub no_plan : TownNumbers → Option (ℕ × ℕ)
no_plan x = plan_refusal x.crossings x.streets x.depot

-- 1 to 4, 7 and 8: a round or a sheet that cannot be checked
abbrev pub no_check : RoundNumbers → Option (ℕ × ℕ)
no_check x = check_refusal x.town.crossings x.town.streets x.town.depot x.legs x.parts

-- the checker's word
abbrev pub word_on : RoundNumbers → Word
word_on x = judged (town_of x.town) x.town.depot (legs_in x.legs) (sheet_in x.town.crossings x.parts)
