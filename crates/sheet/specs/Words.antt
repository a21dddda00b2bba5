-- The word on a round and a sheet. Assumes nothing: these are definitions.
use Rattle.std.specs.Prelude.{ℕ, ◌+◌, ◌*◌, ◌/◌, ◌%◌, List, [], ◌∷◌, length, Some, None, Ok, Err, Option, Result, ◌==◌, nat_le, slice_index, slice_index_or}
use Rattle.road.specs.declared.fault.Fault.{Fault}
use Rattle.road.specs.declared.fault.Fault.TheVariants.{Leg as AtLeg, Home, Street as LeftOut}
use Rattle.road.specs.declared.refusal.Refusal.{Refusal}
use Rattle.road.specs.declared.leg.Leg.{Leg}
use Rattle.road.specs.Roads.{pick, Town, street, far, all_streets}
use Rattle.road.specs.Counts.{size, all}
use Rattle.road.specs.First.{unless, unless_all, ◌then◌, Says}
use Rattle.road.specs.Refusals.{listed, town_refusal, legs_refusal}
use Rattle.road.specs.Numbers.{town_in}
use Rattle.road.specs.Faults.{fault}
use Rattle.sheet.specs.declared.word.SheetFault.{SheetFault}
use Rattle.sheet.specs.declared.word.SheetFault.TheVariants.{Part as AtPart, Street as AtStreet}
use Rattle.sheet.specs.declared.word.Word.{Word}
use Rattle.sheet.specs.declared.word.Word.TheVariants.{NoRound, NoSheet, Shortest, Apart}
use Rattle.sheet.specs.Sheet.{Part, no_part, ways_out, load, weights}

-- the first part out of which an even number of streets lead
abbrev pub part_fault : Town → List Part → Option SheetFault
part_fault t ps = unless_all (length ps) (λ i. ways_out (slice_index_or ps i no_part).marks t.streets % 2 == 1) AtPart

-- the first street that bears more than twice its length
abbrev pub load_fault : Town → List Part → Option SheetFault
load_fault t ps = unless_all (size t) (λ k. nat_le (load ps (street t k)) (2 * (street t k).long)) AtStreet

-- what is wrong with parts as a sheet
abbrev pub sheet_fault : Town → List Part → Option SheetFault
sheet_fault t ps = part_fault t ps then load_fault t ps

-- a result that says what is wrong with them
abbrev pub Finds : Option SheetFault → Result (Unit {0}) SheetFault → Type 0
Finds due r = Says (λ f. f) due (λ _. Unit {0}) r

-- twice the least length that a sheet shows for rounds
abbrev pub shown : Town → List Part → ℕ
shown t ps = 2 * all_streets t.streets + weights ps

-- the word on a round and a sheet; half of what the sheet shows is rounded up
abbrev pub compared : Town → List Leg → List Part → Word
compared t ls ps = pick (2 * far t ls == shown t ps) (Shortest (far t ls)) (Apart (far t ls) ((shown t ps + 1) / 2))

-- the word on legs and parts: the fault of the legs as a round, or else of the parts as a sheet, or else how they compare
abbrev pub judged_by : Option Fault → Option SheetFault → Word → Word
judged_by (Some f) s w = NoRound f
judged_by None (Some s) w = NoSheet s
judged_by None None w = w

abbrev pub judged : Town → ℕ → List Leg → List Part → Word
judged t depot ls ps = judged_by (fault t depot depot all ls) (sheet_fault t ps) (compared t ls ps)

-- 8: numbers that are not a whole number of parts, at their length
abbrev pub whole_refusal : ℕ → List ℕ → Option (ℕ × ℕ)
whole_refusal n xs = unless (length xs % (1 + n) == 0) (8, length xs)

-- more than 400 parts, at their number
abbrev pub count_refusal : ℕ → List ℕ → Option (ℕ × ℕ)
count_refusal n xs = unless (nat_le (length xs / (1 + n)) 400) (8, length xs / (1 + n))

-- or a weight above 10,000,000, at the first such part
abbrev pub weight_refusal : ℕ → List ℕ → Option (ℕ × ℕ)
weight_refusal n xs = unless_all (length xs / (1 + n)) (λ i. nat_le (slice_index xs (i * (1 + n))) 10000000) (λ i. (8, i))

abbrev pub parts_refusal : ℕ → List ℕ → Option (ℕ × ℕ)
parts_refusal n xs = whole_refusal n xs then (count_refusal n xs then weight_refusal n xs)

-- 1 to 4, 7 and 8
abbrev pub check_refusal : ℕ → List ℕ → ℕ → List ℕ → List ℕ → Option (ℕ × ℕ)
check_refusal n streets depot legs parts = town_refusal n streets depot then (legs_refusal (town_in n streets) legs then parts_refusal n parts)

-- the number of each case of an answer, and its values: of a fault its kind and place, of a refusal its number and place
abbrev pub said : Result Word Refusal → ℕ × List ℕ
said (Ok (NoRound (AtLeg i))) = (0, 0 ∷ i ∷ [])
said (Ok (NoRound Home)) = (0, 1 ∷ [])
said (Ok (NoRound (LeftOut k))) = (0, 2 ∷ k ∷ [])
said (Ok (NoSheet (AtPart i))) = (1, 0 ∷ i ∷ [])
said (Ok (NoSheet (AtStreet k))) = (1, 1 ∷ k ∷ [])
said (Ok (Shortest n)) = (2, n ∷ [])
said (Ok (Apart n m)) = (3, n ∷ m ∷ [])
said (Err r) = (4, (listed r).0 ∷ (listed r).1 ∷ [])

-- what is said where a refusal may be due
abbrev pub unless_refused : Option (ℕ × ℕ) → Word → ℕ × List ℕ
unless_refused (Some due) w = (4, due.0 ∷ due.1 ∷ [])
unless_refused None w = said (Ok w)
