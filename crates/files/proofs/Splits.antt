-- A list that is split at the first element that passes a test. Assumes nothing.
use Rattle.std.proofs.Common.{◌≡◌, ℕ, ◌+◌, ◌-◌, ◌≤◌, Bool, true, false, cond, List, [], length, take, drop, map, Some, None, ltb, refl, sym, ap, ◌∙◌, arith, length-drop}
use Rattle.std.proofs.lemmas.Bool.{ltb-false}
use Rattle.std.proofs.lemmas.List.{take-map, drop-map, take_all, drop_all}

some_at : (b : Bool) (i p : ℕ) → Some i ≡ cond b (Some p) None → i ≡ p
some_at true i p e = cc
some_at false i p e = cc

at_none : (b : Bool) (p : ℕ) → None ≡ cond b (Some p) None → b ≡ false
at_none true p e = cc
at_none false p e = refl

past : (n p : ℕ) → None ≡ cond (ltb p n) (Some p) None → n ≤ p
past n p e = ltb-false p n (at_none (ltb p n) p e)

module _ {X Y : Type 0} (f : X → Y) (xs : List X) where
  pub before_some : (i p : ℕ) → Some i ≡ cond (ltb p (length (map f xs))) (Some p) None → map f (take i xs) ≡ take p (map f xs)
  before_some i p e = sym (take-map f i xs) ∙ ap (λ n. take n (map f xs)) (some_at _ i p e)

  pub after_some : (i p : ℕ) → Some i ≡ cond (ltb p (length (map f xs))) (Some p) None → map f (take (length xs - (i + 1)) (drop (i + 1) xs)) ≡ drop (p + 1) (map f xs)
  after_some i p e =
      let d : length (drop (i + 1) xs) ≤ length xs - (i + 1) = omega (arith, length-drop (i + 1) xs) in
      ap (map f) (take_all (length xs - (i + 1)) (drop (i + 1) xs) d)
      ∙ sym (drop-map f (i + 1) xs)
      ∙ ap (λ n. drop (n + 1) (map f xs)) (some_at _ i p e)

  pub before_none : (p : ℕ) → None ≡ cond (ltb p (length (map f xs))) (Some p) None → map f xs ≡ take p (map f xs)
  before_none p e = sym (take_all p (map f xs) (past (length (map f xs)) p e))

  pub after_none : (p : ℕ) → None ≡ cond (ltb p (length (map f xs))) (Some p) None → [] ≡ drop (p + 1) (map f xs)
  after_none p e = let h : length (map f xs) ≤ p + 1 = omega (arith, past (length (map f xs)) p e) in sym (drop_all (p + 1) (map f xs) h)
