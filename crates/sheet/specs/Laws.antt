-- What the checker's words mean. Each statement is a type that src/laws.rt asks a proof of. Assumes nothing.
use Rattle.std.specs.Prelude.{◌≡◌, ℕ, ◌+◌, ◌*◌, ◌/◌, ◌%◌, ◌<◌, ◌≤◌, ◌⊎◌, ◌↔◌, List, length, Some, None, slice_index, slice_index_or}
use Rattle.road.specs.declared.fault.Fault.{Fault}
use Rattle.road.specs.declared.leg.Leg.{Leg}
use Rattle.road.specs.Roads.{Town, street, Round, far}
use Rattle.road.specs.Counts.{size, all}
use Rattle.road.specs.Faults.{fault}
use Rattle.sheet.specs.declared.word.SheetFault.{SheetFault}
use Rattle.sheet.specs.declared.word.SheetFault.TheVariants.{Part as AtPart, Street as AtStreet}
use Rattle.sheet.specs.declared.word.Word.TheVariants.{NoRound, NoSheet, Shortest, Apart}
use Rattle.sheet.specs.Sheet.{Part, no_part, Sheet, ways_out, load}
use Rattle.sheet.specs.Words.{shown, judged, parts_refusal}

-- an odd number of streets lead out of part i, and street k bears at most twice its length
abbrev pub Odd : Town → List Part → ℕ → Type 0
Odd t ps i = ways_out (slice_index_or ps i no_part).marks t.streets % 2 ≡ 1

abbrev pub Bears : Town → List Part → ℕ → Type 0
Bears t ps k = load ps (street t k) ≤ 2 * (street t k).long

-- round and sheet agree
abbrev pub Agree : Town → List Leg → List Part → Type 0
Agree t ls ps = 2 * far t ls ≡ shown t ps

-- shortest just if the round is one, the sheet is one, and they agree
abbrev pub WordShortest : Type 0
WordShortest =
    (t : Town) (depot : ℕ) (ls : List Leg) (ps : List Part) (n : ℕ) → (judged t depot ls ps ≡ Shortest n)
    ↔ (Round t depot ls × Sheet t ps × Agree t ls ps × (n ≡ far t ls))

-- no round just if the legs are none, with their fault
abbrev pub WordNoRound : Type 0
WordNoRound =
    (t : Town) (depot : ℕ) (ls : List Leg) (ps : List Part) →
    (((f : Fault) → (judged t depot ls ps ≡ NoRound f) ↔ (fault t depot depot all ls ≡ Some f)) × (((f : Fault) × (judged t depot ls ps ≡ NoRound f)) ↔ (Round t depot ls → ⊥)))

-- no sheet just if the round is one and the parts are no sheet
abbrev pub WordNoSheet : Type 0
WordNoSheet =
    (t : Town) (depot : ℕ) (ls : List Leg) (ps : List Part) →
    ((f : SheetFault) × (judged t depot ls ps ≡ NoSheet f)) ↔ (Round t depot ls × (Sheet t ps → ⊥))

-- at part i just if the parts before it have an odd number out and i has not
abbrev pub WordAtPart : Type 0
WordAtPart =
    (t : Town) (depot : ℕ) (ls : List Leg) (ps : List Part) (i : ℕ) → (judged t depot ls ps ≡ NoSheet (AtPart i))
    ↔ (Round t depot ls × (i < length ps) × (Odd t ps i → ⊥) × ((j : ℕ) → j < i → Odd t ps j))

-- and at street k just if all parts have, each street below k bears at most twice its length, and k more
abbrev pub WordAtStreet : Type 0
WordAtStreet =
    (t : Town) (depot : ℕ) (ls : List Leg) (ps : List Part) (k : ℕ) → (judged t depot ls ps ≡ NoSheet (AtStreet k))
    ↔ (Round t depot ls × ((i : ℕ) → i < length ps → Odd t ps i) × (k < size t) × (Bears t ps k → ⊥) × ((j : ℕ) → j < k → Bears t ps j))

-- apart just if both are right and they do not agree
abbrev pub WordApart : Type 0
WordApart =
    (t : Town) (depot : ℕ) (ls : List Leg) (ps : List Part) (n m : ℕ) → (judged t depot ls ps ≡ Apart n m)
    ↔ (Round t depot ls × Sheet t ps × (Agree t ls ps → ⊥) × (n ≡ far t ls) × (m ≡ (shown t ps + 1) / 2))

-- the rules of parts in numbers, for a town of n crossings
abbrev pub WholeRule : ℕ → List ℕ → Type 0
WholeRule n xs = (m : ℕ) × (length xs ≡ m * (1 + n))

abbrev pub CountRule : ℕ → List ℕ → Type 0
CountRule n xs = length xs / (1 + n) ≤ 400

abbrev pub WeightRule : ℕ → List ℕ → ℕ → Type 0
WeightRule n xs i = slice_index xs (i * (1 + n)) ≤ 10000000

-- refusal 8 is given just if they are not a whole number of parts, at their length; or else too many, at their number; or else one is too heavy, at the first
abbrev pub PartsRefused : Type 0
PartsRefused =
    (n : ℕ) (xs : List ℕ) (p : ℕ) → (parts_refusal n xs ≡ Some (8, p))
    ↔ (((WholeRule n xs → ⊥) × (p ≡ length xs))
    ⊎ ((WholeRule n xs × (CountRule n xs → ⊥) × (p ≡ length xs / (1 + n)))
    ⊎ (WholeRule n xs × CountRule n xs × (p < length xs / (1 + n)) × (WeightRule n xs p → ⊥) × ((j : ℕ) → j < p → WeightRule n xs j))))

-- and none just if all are kept
abbrev pub PartsTaken : Type 0
PartsTaken =
    (n : ℕ) (xs : List ℕ) → (parts_refusal n xs ≡ None)
    ↔ (WholeRule n xs × CountRule n xs × ((i : ℕ) → i < length xs / (1 + n) → WeightRule n xs i))
