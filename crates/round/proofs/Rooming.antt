-- Rooms that are written to. Assumes nothing.
use Rattle.std.proofs.Common.{◌≡◌, ℕ, zero, suc, ◌+◌, ◌-◌, ◌<◌, ◌≤◌, Bool, true, false, not, cond, List, [], ◌∷◌, ◌++◌, map, length, get_or, take, drop, set, sym, refl, ap, ◌∙◌, subst, arith}
use lib.ListN.{length-map}
use lib.Seq.{append_snoc}
use mir.Val.{bool_byte}
use Rattle.std.proofs.lemmas.List.{length-take-le, take_all, set_at, drop_more, map_more, length_push}
use Rattle.std.specs.List.{filter}
use Rattle.road.specs.Roads.{pick}
use Rattle.road.specs.Counts.{bit}
use Rattle.road.specs.Model.{marked}
use Rattle.join.specs.declared.turn.Stage.{Stage}
use Rattle.join.specs.Certified.{no_stage, sheet_of}
use Rattle.sheet.specs.Numbers.{AllMarked}
use Rattle.round.specs.Rooms.{part_of, over}

-- where the parts of all classes but the first have a mark for each crossing, so have those of all
pub marks_more : (n r : ℕ) (ss : List Stage) → 0 < length ss → n ≤ length (get_or ss 0 no_stage).marks → AllMarked n (sheet_of n r (take (length ss - 1) (drop 1 ss))) → AllMarked n (sheet_of n r ss)
marks_more n r [] h l m = absurd (omega arith)
marks_more n r (s ∷ ss) h l m =
    at (marked s.marks r) (length-take-le n s.marks l) (subst (λ (ts : List Stage). AllMarked n (sheet_of n r ts)) (take_all (length (s ∷ ss) - 1) ss (omega arith)) m)
  where
    at : (b : Bool) → length (part_of n s).marks ≡ n → AllMarked n (sheet_of n r ss) → AllMarked n (pick b (sheet_of n r ss) (part_of n s ∷ sheet_of n r ss))
    at true here rest i l = rest i l
    at false here rest zero l = here
    at false here rest (suc i) l = rest i (omega arith)

-- there are as many parts as classes without the depot
pub parts_counted : (n r : ℕ) (ss : List Stage) → length (filter (λ s. not (marked s.marks r)) ss) ≡ length (sheet_of n r ss)
parts_counted n r [] = refl
parts_counted n r (s ∷ ss) = at (marked s.marks r) (parts_counted n r ss)
  where
    at : (b : Bool) → length (filter (λ s. not (marked s.marks r)) ss) ≡ length (sheet_of n r ss) →
        length (cond (not b) (s ∷ filter (λ s. not (marked s.marks r)) ss) (filter (λ s. not (marked s.marks r)) ss)) ≡ length (pick b (sheet_of n r ss) (part_of n s ∷ sheet_of n r ss))
    at true e = e
    at false e = omega arith

-- one number more is written
pub push_over : (ys xs : List ℕ) (y : ℕ) → length ys < length xs → set (over ys xs) (length ys) y ≡ over (ys ++ y ∷ []) xs
push_over ys xs y h =
    ap (λ (zs : List ℕ). set (ys ++ zs) (length ys) y) (drop_more xs (length ys) 0 h)
    ∙ set_at ys (get_or xs (length ys) 0) (drop (length ys + 1) xs) y (length ys) refl
    ∙ sym (append_snoc ys y (drop (length ys + 1) xs))
    ∙ ap (λ k. (ys ++ y ∷ []) ++ drop k xs) (sym (length_push ys y))

module _ {X : Type 0} (f : X → ℕ) (ls : List X) (xs : List ℕ) where
  pub over_more : (i : ℕ) (d : X) (y : ℕ) → i < length ls → length ls ≤ length xs → y ≡ f (get_or ls i d) → set (over (map f (take i ls)) xs) i y ≡ over (map f (take (i + 1) ls)) xs
  over_more i d y h le e =
      let long : length (map f (take i ls)) ≡ i = length-map (take i ls) f ∙ length-take-le i ls (omega arith) in
      ap (λ k. set (over (map f (take i ls)) xs) k y) (sym long)
      ∙ push_over (map f (take i ls)) xs y (omega arith)
      ∙ ap (λ (zs : List ℕ). over zs xs) (ap (λ z. map f (take i ls) ++ z ∷ []) e ∙ sym (map_more f ls i d h))

  pub over_all : (i : ℕ) → length ls ≤ i → over (map f (take i ls)) xs ≡ over (map f ls) xs
  over_all i h = ap (λ (ls : List X). over (map f ls) xs) (take_all i ls h)

-- a mark as the code makes a number of it
pub byte_bit : (b : Bool) → bool_byte b ≡ bit b
byte_bit true = refl
byte_bit false = refl
