-- What a sheet shows. Each is a statement, a type that src/lib.rt asks a proof of. Assumes nothing.
use Rattle.std.specs.Prelude.{◌≡◌, ℕ, suc, ◌+◌, ◌*◌, ◌%◌, ◌≤◌, Bool, List, [], ◌∷◌, Ok, Err, Result}
use Rattle.road.specs.declared.refusal.Refusal.{Refusal}
use Rattle.road.specs.declared.leg.Leg.{Leg}
use Rattle.road.specs.Roads.{pick, Town, street, Drive, Round, Shortest, far, all_streets}
use Rattle.sheet.specs.declared.word.Word.{Word}
use Rattle.sheet.specs.declared.word.Word.TheVariants as words
use Rattle.sheet.specs.Sheet.{Part, Sheet, weights, leads_out, ways_out}

-- how often a drive crosses the border of a part
unfoldable pub crosses : Town → List Bool → List Leg → ℕ
crosses t ms [] = 0
crosses t ms (l ∷ ls) = pick (leads_out ms (street t l.by)) 1 0 + crosses t ms ls

-- a drive that comes home has crossed each border an even number of times
unfoldable pub HomeEven : Type 0
HomeEven = (t : Town) (ms : List Bool) (v : ℕ) (ls : List Leg) → Drive t v ls v → crosses t ms ls % 2 ≡ 0

-- where an odd number of streets lead out, one of them at least is driven twice
unfoldable pub Twice : Type 0
Twice =
    (t : Town) (depot : ℕ) (ms : List Bool) (ls : List Leg) → Round t depot ls → ways_out ms t.streets % 2 ≡ 1 →
    suc (ways_out ms t.streets) ≤ crosses t ms ls

-- a sheet is right, whoever wrote it
unfoldable pub SheetRight : Type 0
SheetRight =
    (t : Town) (depot : ℕ) (ps : List Part) (ls : List Leg) → Sheet t ps → Round t depot ls →
    2 * all_streets t.streets + weights ps ≤ 2 * far t ls

-- so a round and a sheet that agree are the end of it
unfoldable pub Accepted : Type 0
Accepted =
    (t : Town) (depot : ℕ) (ps : List Part) (ls : List Leg) → Sheet t ps → Round t depot ls →
    2 * far t ls ≡ 2 * all_streets t.streets + weights ps → Shortest t depot ls

-- what the word shortest means: the legs are a shortest round, of that length
abbrev pub Shows : Town → ℕ → List Leg → Result Word Refusal → Type 0
Shows t depot ls (Ok (words.Shortest n)) = Shortest t depot ls × (far t ls ≡ n)
Shows t depot ls (Ok (words.NoRound f)) = Unit {0}
Shows t depot ls (Ok (words.NoSheet f)) = Unit {0}
Shows t depot ls (Ok (words.Apart n m)) = Unit {0}
Shows t depot ls (Err r) = Unit {0}
