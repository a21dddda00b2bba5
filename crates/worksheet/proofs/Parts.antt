-- The parts that stand in numbers, one after the other. Assumes nothing.
use Rattle.std.proofs.Common.{◌≡◌, ℕ, zero, suc, ◌+◌, ◌/◌, ◌-◌, ◌<◌, Option, Some, None, List, [], ◌∷◌, ◌++◌, length, get_or, take, drop, refl, sym, ap, subst, length-append, ◌∙◌, arith}
use native.Mathlib.Nat.{div-eq_of_lt}
use Rattle.std.proofs.lemmas.Iterator.{YieldsList}
use Rattle.std.proofs.lemmas.List.{take-append-le}
use Rattle.std.proofs.Math.Nat.{add-div_left}
use Rattle.std.proofs.Math.Seq.{drop-append_seam}
use Rattle.std.specs.Iterator.{AlwaysYields}
use Rattle.std.specs.Slice.Iter.{chunks_exact_rest, chunks_exact_size, chunks_exact_steps}
use denote.Ref.{Bor}
use Rattle.sheet.specs.Sheet.{Part}
use Rattle.sheet.specs.Numbers.{marks_in, parts_in, sheet_in}
use Rattle.sheet.proofs.Places.{front}

-- the first part stands in the first 1 + n numbers
first_part : (n : ℕ) (xs ys : List ℕ) → length xs ≡ 1 + n → front n xs ≡ front n (xs ++ ys)
first_part n [] ys l = absurd (omega arith)
first_part n (x ∷ xs) ys l = ap (λ zs. record { marks = marks_in zs; weight = x }) (sym (take-append-le n xs ys (omega arith)))

-- and the others behind them
one_less : (m n : ℕ) (xs ys : List ℕ) → length xs ≡ 1 + n → length (xs ++ ys) / (1 + n) ≡ suc m → length ys / (1 + n) ≡ m
one_less m n xs ys l d =
    let pos : 0 < 1 + n = omega arith in
    let e : length (xs ++ ys) ≡ (1 + n) + length ys = omega (arith, length-append xs ys) in
    omega (arith, d, ap (λ z. z / (1 + n)) e, add-div_left (length ys) pos)

parts_behind : (m n : ℕ) (xs ys : List ℕ) → length xs ≡ 1 + n → parts_in m n (drop (1 + n) (xs ++ ys)) ≡ parts_in m n ys
parts_behind m n xs ys l = ap (parts_in m n) (ap (λ z. drop z (xs ++ ys)) (sym l) ∙ drop-append_seam xs ys)

-- a part, from as many numbers as it has
abbrev pub part_at_front : List ℕ → Part
part_at_front xs = record { marks = marks_in (take (length xs - 1) (drop 1 xs)); weight = get_or xs 0 0 }

as_front : (n : ℕ) (xs : List ℕ) → length xs ≡ 1 + n → part_at_front xs ≡ front n xs
as_front n xs l = let e : length xs - 1 ≡ n = omega arith in ap (λ k. record { marks = marks_in (take k (drop 1 xs)); weight = get_or xs 0 0 }) e

-- a source of chunks of 1 + n numbers, which shows what it has left, gives the m parts of these numbers
module _ {S : Type 0} (steps : S → Option (Bor (List ℕ)) → S → Type 0) (rest : S → List ℕ) (size : S → ℕ)
    (go : (s : S) (x : Bor (List ℕ)) (t : S) → steps s (Some x) t → (size t ≡ size s) × (rest s ≡ x.now ++ rest t) × (length x.now ≡ size s))
    (stop : (s t : S) → steps s None t → length (rest s) < size s) where
  none_left : (n : ℕ) (s : S) (x : Bor (List ℕ)) (t : S) → size s ≡ 1 + n → length (rest s) / (1 + n) ≡ 0 → steps s (Some x) t → ⊥
  none_left n s x t e d h =
      let k = go s x t h in
      let l : length (rest s) ≡ (1 + n) + length (rest t) = omega (arith, ap length k.1, length-append x.now (rest t), k.2, e) in
      omega (arith, d, ap (λ z. z / (1 + n)) l, add-div_left (length (rest t)) (let pos : 0 < 1 + n = omega arith in pos))

  one_left : (m n : ℕ) (s t : S) → size s ≡ 1 + n → length (rest s) / (1 + n) ≡ suc m → steps s None t → ⊥
  one_left m n s t e d h = let short : length (rest s) < 1 + n = omega (arith, stop s t h, e) in omega (arith, d, div-eq_of_lt short)

  gives : (m n : ℕ) (s : S) → size s ≡ 1 + n → length (rest s) / (1 + n) ≡ m → AlwaysYields steps (λ x. part_at_front x.now) s (parts_in m n (rest s))
  unfolding parts_in
  gives zero n s e d = λ x t h. none_left n s x t e d h
  gives (suc m) n s e d = (
    λ t h. one_left m n s t e d h,
    λ x t h.
        let k = go s x t h in
        let l : length x.now ≡ 1 + n = omega (arith, k.2, e) in (
          as_front n x.now l ∙ first_part n x.now (rest t) l ∙ ap (front n) (sym k.1),
          subst (AlwaysYields steps (λ x. part_at_front x.now) t) (sym (ap (λ zs. parts_in m n (drop (1 + n) zs)) k.1 ∙ parts_behind m n x.now (rest t) l))
              (gives m n t (k.0 ∙ e) (one_less m n x.now (rest t) l (subst (λ zs. length zs / (1 + n) ≡ suc m) k.1 d))),
        ),
  )

pub chunks_yield : (n : ℕ) (xs : List ℕ) {s : _} → chunks_exact_rest s ≡ xs → chunks_exact_size s ≡ 1 + n → YieldsList (chunks_exact_steps {A = ℕ}) (λ x. part_at_front x.now) s (sheet_in n xs)
chunks_yield n xs {s = s} rest size = record {
  runs = subst (λ zs. AlwaysYields chunks_exact_steps (λ x. part_at_front x.now) s (sheet_in n zs)) rest
      (gives chunks_exact_steps chunks_exact_rest chunks_exact_size (λ s x t h. (h.0, h.1.0, h.1.1)) (λ s t h. h.1.0) _ n s size refl);
}
