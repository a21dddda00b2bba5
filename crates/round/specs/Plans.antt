-- What the planner answers, and what it leaves in the rooms. Assumes nothing: these are definitions.
use Rattle.std.specs.Prelude.{◌≡◌, ℕ, ◌+◌, ◌*◌, ◌<◌, ◌≤◌, List, map, length, Some, None, Ok, Err, Option, Result, nat_le, slice_index_or}
use Rattle.road.specs.declared.leg.Leg.{Leg}
use Rattle.road.specs.Roads.{Town, Shortest, far, all_streets}
use Rattle.road.specs.Counts.{size}
use Rattle.road.specs.First.{unless, ◌then◌}
use Rattle.road.specs.Refusals.{listed}
use Rattle.sheet.specs.Sheet.{Part, no_part, Sheet, weights}
use Rattle.sheet.specs.declared.word.Word.TheVariants.{Shortest as SaysShortest}
use Rattle.round.specs.declared.checked.Checked.{Checked}
use Rattle.round.specs.declared.plan.Plan.{Plan}
use Rattle.round.specs.declared.no_plan.NoPlan.{NoPlan}
use Rattle.round.specs.declared.no_plan.NoPlan.TheVariants.{Refused, Memory}
use Rattle.pairs.specs.Walks.{Forth, Each}
use Rattle.road.specs.Numbers.{leg_number}
use Rattle.sheet.specs.Numbers.{sheet_numbers, AllMarked}
use Rattle.round.specs.Rooms.{over}

-- a round and a sheet that agree: so the round is a shortest one, at most two legs a street, and at most 400 parts, none of which weighs more than 10,000,000;
-- a street whose ends are one crossing is driven from one to two
pub record Agreed (t : Town) (depot : ℕ) (ls : List Leg) (ps : List Part) : Type 0 where
  pub shortest : Shortest t depot ls
  pub sheet : Sheet t ps
  pub agree : 2 * far t ls ≡ 2 * all_streets t.streets + weights ps
  pub legs : length ls ≤ 2 * size t
  pub parts : length ps ≤ 400
  pub forth : Each (Forth t) ls
  pub small : (i : ℕ) → i < length ps → (slice_index_or ps i no_part).weight ≤ 10000000

-- how many numbers a sheet needs
abbrev pub sheet_room : Town → List Part → ℕ
sheet_room t ps = length ps * (1 + t.crossings)

-- 6: room for the legs that is too short, or else room for the parts, at what is needed
abbrev pub room_refusal : Town → List Leg → List Part → (legs parts : List ℕ) → Option (ℕ × ℕ)
room_refusal t ls ps legs parts = unless (nat_le (length ls) (length legs)) (6, length ls) then unless (nat_le (sheet_room t ps) (length parts)) (6, sheet_room t ps)

-- a refusal that is due, with both rooms as they were
abbrev pub Refuses : ℕ × ℕ → Result Plan NoPlan → Type 0
Refuses due (Ok p) = ⊥
Refuses due (Err (Refused r)) = listed r ≡ due
Refuses due (Err (Memory e)) = ⊥

-- where no refusal is due the round and the sheet, with a mark for each crossing, stand at the front of the rooms, the rest of the rooms is as it was,
-- and the answer's numbers are theirs
pub record Writes (t : Town) (ls : List Leg) (ps : List Part) (legs parts legs' parts' : List ℕ) (p : Plan) : Type 0 where
  pub round : legs' ≡ over (map leg_number ls) legs
  pub sheet : parts' ≡ over (sheet_numbers ps) parts
  pub marks : AllMarked t.crossings ps
  pub legs_count : p.legs ≡ length ls
  pub parts_count : p.parts ≡ length ps
  pub far_is : p.length ≡ far t ls

-- rooms that are as they were
abbrev pub Untouched : (legs parts legs' parts' : List ℕ) → Type 0
Untouched legs parts legs' parts' = (legs' ≡ legs) × (parts' ≡ parts)

-- what comes of a round and a sheet, where a refusal for want of room may be due
abbrev pub Fits : Option (ℕ × ℕ) → Town → List Leg → List Part → (legs parts legs' parts' : List ℕ) → Result Plan NoPlan → Type 0
Fits (Some due) t ls ps legs parts legs' parts' r = Untouched legs parts legs' parts' × Refuses due r
Fits None t ls ps legs parts legs' parts' (Ok p) = Writes t ls ps legs parts legs' parts' p
Fits None t ls ps legs parts legs' parts' (Err e) = ⊥

-- the planner: want of memory, or a round and a sheet that agree and what comes of them
abbrev pub Plans : Town → ℕ → (legs parts legs' parts' : List ℕ) → Result Plan NoPlan → Type 0
Plans t depot legs parts legs' parts' (Err (Memory e)) = Untouched legs parts legs' parts'
Plans t depot legs parts legs' parts' (Ok p) =
    (ls : List Leg) × (ps : List Part) × Agreed t depot ls ps × Fits (room_refusal t ls ps legs parts) t ls ps legs parts legs' parts' (Ok p)
Plans t depot legs parts legs' parts' (Err (Refused r)) =
    (ls : List Leg) × (ps : List Part) × Agreed t depot ls ps × Fits (room_refusal t ls ps legs parts) t ls ps legs parts legs' parts' (Err (Refused r))

-- unless a refusal of 1 to 5 is due
abbrev pub Answers : Option (ℕ × ℕ) → Town → ℕ → (legs parts legs' parts' : List ℕ) → Result Plan NoPlan → Type 0
Answers (Some due) t depot legs parts legs' parts' r = Untouched legs parts legs' parts' × Refuses due r
Answers None t depot legs parts legs' parts' r = Plans t depot legs parts legs' parts' r

-- the planner, with the checker's word on what it wrote: a refusal of the list, want of memory, or shortest
abbrev pub Promises : Option (ℕ × ℕ) → Town → ℕ → (legs parts legs' parts' : List ℕ) → Result Checked NoPlan → Type 0
Promises due t depot legs parts legs' parts' (Ok c) = Answers due t depot legs parts legs' parts' (Ok c.plan) × (c.word ≡ SaysShortest c.plan.length)
Promises due t depot legs parts legs' parts' (Err e) = Answers due t depot legs parts legs' parts' (Err e)
