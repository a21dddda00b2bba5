-- What the checker's words mean. Assumes nothing.
use Rattle.std.proofs.Common.{◌≡◌, ℕ, ◌+◌, ◌*◌, ◌/◌, ◌%◌, ◌<◌, Bool, true, false, not, eqb, leb, ◌⊎◌, ◌↔◌, List, length, get_or, Some, None, Ok, Option, sym, refl, ap, ◌∙◌, ap₂, inl, inr, ⊎_elim}
use Rattle.std.proofs.lemmas.Bool.{leb-true, le-leb, eqb-true, eq-eqb, ne_eqb, eqb-false}
use Rattle.road.specs.declared.fault.Fault.{Fault}
use Rattle.road.specs.declared.leg.Leg.{Leg}
use Rattle.road.specs.Roads.{pick, Town, street, Round, far}
use Rattle.road.specs.Counts.{size, all}
use Rattle.road.specs.First.{first, unless, ◌then◌}
use Rattle.road.specs.Faults.{fault}
use Rattle.road.proofs.First.{Tests, tests_not, tests_all, tests_first, unless_some, unless_none, then_some, then_none}
use Rattle.road.proofs.Faults.{fault_round}
use Rattle.sheet.specs.declared.word.SheetFault.{SheetFault}
use Rattle.sheet.specs.declared.word.SheetFault.TheVariants.{Part as AtPart, Street as AtStreet}
use Rattle.sheet.specs.declared.word.Word.{Word}
use Rattle.sheet.specs.declared.word.Word.TheVariants.{NoRound, NoSheet, Shortest, Apart}
use Rattle.sheet.specs.Sheet.{Part, no_part, Sheet, ways_out, load}
use Rattle.sheet.specs.Shown.{Shows, Accepted}
use Rattle.sheet.specs.Words.{part_fault, load_fault, sheet_fault, shown, compared, judged_by, judged}
use Rattle.sheet.specs.Laws.{Odd, Bears, Agree, WordShortest, WordNoRound, WordNoSheet, WordAtPart, WordAtStreet, WordApart}
use Rattle.sheet.proofs.Right.{accepted}

-- how a word came about
pub data Came (o : Option Fault) (s : Option SheetFault) (w v : Word) : Type 0 where
  round : (f : Fault) → o ≡ Some f → NoRound f ≡ v → Came o s w v
  sheet : (f : SheetFault) → o ≡ None → s ≡ Some f → NoSheet f ≡ v → Came o s w v
  both : o ≡ None → s ≡ None → w ≡ v → Came o s w v

came : (o : Option Fault) (s : Option SheetFault) (w v : Word) → judged_by o s w ≡ v → Came o s w v
came (Some f) s w v e = round f refl e
came None (Some f) w v e = sheet f refl refl e
came None None w v e = both refl refl e

tests_odd : (t : Town) (ps : List Part) (i : ℕ) → Tests (eqb (ways_out (get_or ps i no_part).marks t.streets % 2) 1) (Odd t ps i)
tests_odd t ps i = (eqb-true _ 1, eq-eqb _ 1)

tests_bears : (t : Town) (ps : List Part) (k : ℕ) → Tests (leb (load ps (street t k)) (2 * (street t k).long)) (Bears t ps k)
tests_bears t ps k = (leb-true (load ps (street t k)) (2 * (street t k).long), le-leb (load ps (street t k)) (2 * (street t k).long))

-- an agreement that is tested, and the word that comes of it
from_shortest : (b : Bool) (far bound n : ℕ) → pick b (Shortest far) (Apart far bound) ≡ Shortest n → (b ≡ true) × (n ≡ far)
from_shortest true far bound n e = (refl, cc)
from_shortest false far bound n e = cc

from_apart : (b : Bool) (far bound n m : ℕ) → pick b (Shortest far) (Apart far bound) ≡ Apart n m → (b ≡ false) × (n ≡ far) × (m ≡ bound)
from_apart true far bound n m e = cc
from_apart false far bound n m e = (refl, cc, cc)

-- neither is a fault
not_fault : (b : Bool) (far bound : ℕ) (f : Fault) → pick b (Shortest far) (Apart far bound) ≡ NoRound f → ⊥
not_fault true far bound f e = cc
not_fault false far bound f e = cc

not_sheet_fault : (b : Bool) (far bound : ℕ) (f : SheetFault) → pick b (Shortest far) (Apart far bound) ≡ NoSheet f → ⊥
not_sheet_fault true far bound f e = cc
not_sheet_fault false far bound f e = cc

-- a fault or none
either : {A : Type 0} (o : Option A) → ((f : A) × (o ≡ Some f)) ⊎ (o ≡ None)
either (Some f) = inl (f, refl)
either None = inr refl

module _ (t : Town) (ps : List Part) where
  abbrev odd_at : ℕ → Bool
  odd_at i = eqb (ways_out (get_or ps i no_part).marks t.streets % 2) 1

  abbrev bears_at : ℕ → Bool
  bears_at k = leb (load ps (street t k)) (2 * (street t k).long)

  abbrev part : ℕ
  part = first (length ps) (λ i. not (odd_at i))

  abbrev heavy : ℕ
  heavy = first (size t) (λ k. not (bears_at k))

  tests_parts : Tests (leb (length ps) part) ((i : ℕ) → i < length ps → Odd t ps i)
  tests_parts = (
    λ e i h. (tests_odd t ps i).0 ((tests_all (length ps) odd_at).0 e i h),
    λ all. (tests_all (length ps) odd_at).1 (λ i h. (tests_odd t ps i).1 (all i h)),
  )

  tests_loads : Tests (leb (size t) heavy) ((k : ℕ) → k < size t → Bears t ps k)
  tests_loads = (
    λ e k h. (tests_bears t ps k).0 ((tests_all (size t) bears_at).0 e k h),
    λ all. (tests_all (size t) bears_at).1 (λ k h. (tests_bears t ps k).1 (all k h)),
  )

  -- nothing is wrong with a sheet, and only with one
  is_sheet : (sheet_fault t ps ≡ None) ↔ Sheet t ps
  is_sheet = (
    λ e.
        let r = (then_none (part_fault t ps) (load_fault t ps)).0 e in
        record { odd = tests_parts.0 ((unless_none (leb (length ps) part) (AtPart part)).0 r.0); bears = tests_loads.0 ((unless_none (leb (size t) heavy) (AtStreet heavy)).0 r.1) },
    λ s. (then_none (part_fault t ps) (load_fault t ps)).1 (
      (unless_none (leb (length ps) part) (AtPart part)).1 (tests_parts.1 s.odd),
      (unless_none (leb (size t) heavy) (AtStreet heavy)).1 (tests_loads.1 s.bears),
    ),
  )

  at_part : (i : ℕ) → (sheet_fault t ps ≡ Some (AtPart i)) ↔ ((i < length ps) × (Odd t ps i → ⊥) × ((j : ℕ) → j < i → Odd t ps j))
  at_part i =
      let at = tests_first (length ps) odd_at i in
      let rule = tests_not (odd_at i) (Odd t ps i) (tests_odd t ps i) in (
        λ e. ⊎_elim
            (λ p. let f = at.0 (p.0, cc p.1) in (f.0, rule.0 f.1, λ j h. (tests_odd t ps j).0 (f.2 j h)))
            (λ p. cc (unless_some (leb (size t) heavy) (AtStreet heavy) (AtPart i) p.1).1)
            (then_some (leb (length ps) part) (AtPart part) (AtPart i) (load_fault t ps) e),
        λ r.
            let f = at.1 (r.0, rule.1 r.1, λ j h. (tests_odd t ps j).1 (r.2 j h)) in
            ap₂ (λ (b : Bool) (k : ℕ). unless b (AtPart k) then load_fault t ps) f.0 (sym f.1),
      )

  at_street : (k : ℕ) → (sheet_fault t ps ≡ Some (AtStreet k)) ↔ (((i : ℕ) → i < length ps → Odd t ps i) × (k < size t) × (Bears t ps k → ⊥) × ((j : ℕ) → j < k → Bears t ps j))
  at_street k =
      let at = tests_first (size t) bears_at k in
      let rule = tests_not (bears_at k) (Bears t ps k) (tests_bears t ps k) in (
        λ e. ⊎_elim (λ p. cc p.1)
            (λ p.
            let q = unless_some (leb (size t) heavy) (AtStreet heavy) (AtStreet k) p.1 in
            let f = at.0 (q.0, cc q.1) in
            (tests_parts.0 p.0, f.0, rule.0 f.1, λ j h. (tests_bears t ps j).0 (f.2 j h)))
            (then_some (leb (length ps) part) (AtPart part) (AtStreet k) (load_fault t ps) e),
        λ r.
            let f = at.1 (r.1, rule.1 r.2, λ j h. (tests_bears t ps j).1 (r.3 j h)) in
            ap₂ (λ (b : Bool) (o : Option SheetFault). unless b (AtPart part) then o) (tests_parts.1 r.0) (ap₂ (λ (b : Bool) (j : ℕ). unless b (AtStreet j)) f.0 (sym f.1)),
      )

module _ (t : Town) (depot : ℕ) (ls : List Leg) (ps : List Part) where
  abbrev o : Option Fault
  o = fault t depot depot all ls

  abbrev s : Option SheetFault
  s = sheet_fault t ps

  abbrev w : Word
  w = compared t ls ps

  abbrev agree : Bool
  agree = eqb (2 * far t ls) (shown t ps)

  abbrev bound : ℕ
  bound = (shown t ps + 1) / 2

  -- the word where both are right, and where only the round is
  both_right : Round t depot ls → Sheet t ps → judged t depot ls ps ≡ w
  both_right r q = ap₂ (λ (a : Option Fault) (b : Option SheetFault). judged_by a b w) ((fault_round t depot ls).1 r) ((is_sheet t ps).1 q)

  round_right : Round t depot ls → (f : SheetFault) → s ≡ Some f → judged t depot ls ps ≡ NoSheet f
  round_right r f e = ap₂ (λ (a : Option Fault) (b : Option SheetFault). judged_by a b w) ((fault_round t depot ls).1 r) e

  shortest_if : (n : ℕ) → (judged t depot ls ps ≡ Shortest n) ↔ (Round t depot ls × Sheet t ps × Agree t ls ps × (n ≡ far t ls))
  shortest_if n = (
    λ e. to (came o s w (Shortest n) e),
    λ r. both_right r.0 r.1 ∙ ap₂ (λ (b : Bool) (k : ℕ). pick b (Shortest k) (Apart k bound)) (eq-eqb (2 * far t ls) (shown t ps) r.2) refl ∙ ap Shortest (sym r.3),
  )
    where
      to : Came o s w (Shortest n) → Round t depot ls × Sheet t ps × Agree t ls ps × (n ≡ far t ls)
      to (round f eo e) = cc
      to (sheet f eo es e) = cc
      to (both eo es e) =
          let p = from_shortest agree (far t ls) bound n e in
          ((fault_round t depot ls).0 eo, (is_sheet t ps).0 es, eqb-true (2 * far t ls) (shown t ps) p.0, p.1)

  apart_if : (n m : ℕ) → (judged t depot ls ps ≡ Apart n m) ↔ (Round t depot ls × Sheet t ps × (Agree t ls ps → ⊥) × (n ≡ far t ls) × (m ≡ bound))
  apart_if n m = (
    λ e. to (came o s w (Apart n m) e),
    λ r. both_right r.0 r.1 ∙ ap (λ (b : Bool). pick b (Shortest (far t ls)) (Apart (far t ls) bound)) (ne_eqb (2 * far t ls) (shown t ps) r.2) ∙ ap₂ Apart (sym r.3) (sym r.4),
  )
    where
      to : Came o s w (Apart n m) → Round t depot ls × Sheet t ps × (Agree t ls ps → ⊥) × (n ≡ far t ls) × (m ≡ bound)
      to (round f eo e) = cc
      to (sheet f eo es e) = cc
      to (both eo es e) =
          let p = from_apart agree (far t ls) bound n m e in
          ((fault_round t depot ls).0 eo, (is_sheet t ps).0 es, eqb-false (2 * far t ls) (shown t ps) p.0, p.1, p.2)

  no_round_if : (f : Fault) → (judged t depot ls ps ≡ NoRound f) ↔ (o ≡ Some f)
  no_round_if f = (λ e. to (came o s w (NoRound f) e), λ e. ap (λ (a : Option Fault). judged_by a s w) e)
    where
      to : Came o s w (NoRound f) → o ≡ Some f
      to (round g eo e) = eo ∙ ap Some (same e)
        where
          same : NoRound g ≡ NoRound f → g ≡ f
          same q = cc
      to (sheet g eo es e) = cc
      to (both eo es e) = absurd (not_fault agree (far t ls) bound f e)

  not_round_if : ((f : Fault) × (judged t depot ls ps ≡ NoRound f)) ↔ (Round t depot ls → ⊥)
  not_round_if = (
    λ p r. cc ((no_round_if p.0).0 p.1, (fault_round t depot ls).1 r),
    λ n. ⊎_elim (λ p. (p.0, (no_round_if p.0).1 p.1)) (λ e. absurd (n ((fault_round t depot ls).0 e))) (either o),
  )

  no_sheet_if : (f : SheetFault) → (judged t depot ls ps ≡ NoSheet f) ↔ (Round t depot ls × (s ≡ Some f))
  no_sheet_if f = (λ e. to (came o s w (NoSheet f) e), λ r. round_right r.0 f r.1)
    where
      to : Came o s w (NoSheet f) → Round t depot ls × (s ≡ Some f)
      to (round g eo e) = cc
      to (sheet g eo es e) = ((fault_round t depot ls).0 eo, es ∙ ap Some (same e))
        where
          same : NoSheet g ≡ NoSheet f → g ≡ f
          same q = cc
      to (both eo es e) = absurd (not_sheet_fault agree (far t ls) bound f e)

  not_sheet_if : ((f : SheetFault) × (judged t depot ls ps ≡ NoSheet f)) ↔ (Round t depot ls × (Sheet t ps → ⊥))
  not_sheet_if = (
    λ p. let r = (no_sheet_if p.0).0 p.1 in (r.0, λ q. cc (r.1, (is_sheet t ps).1 q)),
    λ r. ⊎_elim (λ p. (p.0, (no_sheet_if p.0).1 (r.0, p.1))) (λ e. absurd (r.1 ((is_sheet t ps).0 e))) (either s),
  )

  -- the word shortest is only given to a shortest round
  pub judged_shows : (v : Word) → judged t depot ls ps ≡ v → Shows t depot ls (Ok v)
  unfolding Accepted
  judged_shows (Shortest n) e = let r = (shortest_if n).0 e in (accepted t depot ps ls r.1 r.0 r.2, sym r.3)
  judged_shows (NoRound f) e = tt
  judged_shows (NoSheet f) e = tt
  judged_shows (Apart n m) e = tt

pub word_shortest : WordShortest
word_shortest = shortest_if

pub word_apart : WordApart
word_apart = apart_if

pub word_no_round : WordNoRound
word_no_round t depot ls ps = (no_round_if t depot ls ps, not_round_if t depot ls ps)

pub word_no_sheet : WordNoSheet
word_no_sheet = not_sheet_if

pub word_at_part : WordAtPart
word_at_part t depot ls ps i =
    let only = no_sheet_if t depot ls ps (AtPart i) in
    let at = at_part t ps i in
    (λ e. let r = only.0 e in let f = at.0 r.1 in (r.0, f.0, f.1, f.2), λ r. only.1 (r.0, at.1 (r.1, r.2, r.3)))

pub word_at_street : WordAtStreet
word_at_street t depot ls ps k =
    let only = no_sheet_if t depot ls ps (AtStreet k) in
    let at = at_street t ps k in
    (λ e. let r = only.0 e in let f = at.0 r.1 in (r.0, f.0, f.1, f.2, f.3), λ r. only.1 (r.0, at.1 (r.1, r.2, r.3, r.4)))
