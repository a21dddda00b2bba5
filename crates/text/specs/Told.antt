-- What the lines of a text say one by one, and the first of them at which something is wrong. Assumes nothing: these are definitions.
use Rattle.std.specs.Prelude.{◌≡◌, ℕ, ◌+◌, ◌<◌, ◌≤◌, Bool, true, false, List, [], ◌∷◌, ◌++◌, length, take, Some, Ok, Err, Result, slice_index_or}
use Rattle.std.specs.List.{All, filter_map, flat_map}
use Rattle.text.specs.declared.line_fault.LineFault.{LineFault}
use Rattle.text.specs.declared.line_fault.LineFault.TheVariants.{PartCrossing}
use Rattle.text.specs.declared.text_error.TextError.{TextError}
use Rattle.text.specs.declared.text_error.TextError.TheVariants.{Line, NoCrossings, NoDepot, NoRound}
use Rattle.text.specs.Entries.{PartEntry, Entry, Nothing, entry}
use Rattle.text.specs.Format.{crossings_in, depot_in, street_in, round_in, part_in, of_check, misplaced, part_numbers, TownNumbers, RoundNumbers}

-- each line says something; lines are counted from 1
pub record Say (lines : List (List (List ℕ))) (es : List Entry) : Type 0 where
  pub count : length es ≡ length lines
  pub each : (k : ℕ) → k < length lines → entry (1 + k) (slice_index_or lines k []) ≡ Ok (slice_index_or es k Nothing)

-- no two of a kind of which a text has one, and none of a round or a sheet where a town stands alone
pub record Stand (alone : Bool) (es : List Entry) : Type 0 where
  pub crossings : length (filter_map crossings_in es) ≤ 1
  pub depot : length (filter_map depot_in es) ≤ 1
  pub round : length (filter_map round_in es) ≤ 1
  pub town : alone ≡ true → All (λ e. of_check e ≡ false) es

-- a line that says nothing that is known, or what may not stand behind the entries before it
abbrev pub Wrong : Bool → List Entry → Result Entry LineFault → LineFault → Type 0
Wrong alone before (Err g) f = g ≡ f
Wrong alone before (Ok e) f = misplaced alone before e ≡ Some f

-- line i is the first at which something is wrong
abbrev pub FirstWrong : Bool → List (List (List ℕ)) → ℕ → LineFault → Type 0
FirstWrong alone lines i f =
    (k : ℕ) × (es : List Entry) × (i ≡ 1 + k) × (k < length lines) × Say (take k lines) es × Stand alone es × Wrong alone es (entry i (slice_index_or lines k [])) f

-- a fault that is that of such a line
abbrev pub AtLine : Bool → List (List (List ℕ)) → TextError → Type 0
AtLine alone lines (Line i f) = FirstWrong alone lines i f
AtLine alone lines e = ⊥

-- the town that the entries tell: its crossings and its depot once each, and its streets in order
pub record TellTown (es : List Entry) (t : TownNumbers) : Type 0 where
  pub crossings : filter_map crossings_in es ≡ t.crossings ∷ []
  pub depot : filter_map depot_in es ≡ t.depot ∷ []
  pub streets : flat_map street_in es ≡ t.streets

-- and a round once, and parts in order, each with crossings of the town
pub record TellRound (es : List Entry) (r : RoundNumbers) : Type 0 where
  pub town : TellTown es r.town
  pub round : filter_map round_in es ≡ r.legs ∷ []
  pub within : All (λ (p : PartEntry). All (λ v. v < r.town.crossings) p.crossings) (filter_map part_in es)
  pub parts : flat_map (part_numbers r.town.crossings) (filter_map part_in es) ≡ r.parts

-- a part is the first with a crossing past the town's n, and stands in line i
pub record PastTown (n : ℕ) (ps : List PartEntry) (i : ℕ) : Type 0 where
  pub front : List PartEntry
  pub part : PartEntry
  pub rest : List PartEntry
  pub is : ps ≡ front ++ part ∷ rest
  pub before : All (λ (p : PartEntry). All (λ v. v < n) p.crossings) front
  pub past : All (λ v. v < n) part.crossings → ⊥
  pub line : part.line ≡ i

-- no crossings, or else no depot
abbrev pub TownLacks : List Entry → TextError → Type 0
TownLacks es NoCrossings = filter_map crossings_in es ≡ []
TownLacks es NoDepot = (n : ℕ) × (filter_map crossings_in es ≡ n ∷ []) × (filter_map depot_in es ≡ [])
TownLacks es e = ⊥

-- no round, or else a part with a crossing past the town's, at its line
abbrev pub RoundLacks : TownNumbers → List Entry → TextError → Type 0
RoundLacks t es NoRound = filter_map round_in es ≡ []
RoundLacks t es (Line i f) = (ls : List ℕ) × (filter_map round_in es ≡ ls ∷ []) × PastTown t.crossings (filter_map part_in es) i × (f ≡ PartCrossing)
RoundLacks t es e = ⊥
