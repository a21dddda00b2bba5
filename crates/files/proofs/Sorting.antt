-- Texts that are sorted one by one into those that pass a test and those that do not. Assumes nothing.
use Rattle.std.proofs.Common.{◌≡◌, ℕ, ◌+◌, ◌<◌, Bool, true, false, cond, List, [], ◌∷◌, ◌++◌, map, filter, take, length, get_or, sym, ap, ap₂, ◌∙◌, Bor, append-nil}
use Rattle.std.proofs.lemmas.List.{take_more, map-append}
use Rattle.std.proofs.lemmas.List.Elements.{filter-append}

module _ {X : Type 0} (f : X → List ℕ) (p : List ℕ → Bool) (xs : List X) (i : ℕ) (x : X) (is : x ≡ get_or xs i x) (below : i < length xs) where
  next : filter p (map f (take (i + 1) xs)) ≡ filter p (map f (take i xs)) ++ cond (p (f x)) (f x ∷ []) []
  next =
      ap (λ zs. filter p (map f zs)) (take_more xs i x below)
      ∙ ap (filter p) (map-append f (take i xs) (get_or xs i x ∷ []))
      ∙ filter-append p (map f (take i xs)) (f (get_or xs i x) ∷ [])
      ∙ ap (λ z. filter p (map f (take i xs)) ++ cond (p (f z)) (f z ∷ []) []) (sym is)

  pub passes : (y : Bor (List ℕ)) (vs ws : List (Bor (List ℕ))) → p (f x) ≡ true → y.now ≡ f x → ws ≡ vs ++ y ∷ [] →
      map (λ v. v.now) vs ≡ filter p (map f (take i xs)) → map (λ v. v.now) ws ≡ filter p (map f (take (i + 1) xs))
  passes y vs ws t same w e =
      ap (map (λ v. v.now)) w
      ∙ map-append (λ v. v.now) vs (y ∷ [])
      ∙ ap₂ (λ zs z. zs ++ z ∷ []) e same
      ∙ sym (next ∙ ap (λ b. filter p (map f (take i xs)) ++ cond b (f x ∷ []) []) t)

  pub fails : (vs ws : List (Bor (List ℕ))) → p (f x) ≡ false → ws ≡ vs → map (λ v. v.now) vs ≡ filter p (map f (take i xs)) → map (λ v. v.now) ws ≡ filter p (map f (take (i + 1) xs))
  fails vs ws t w e =
      ap (map (λ v. v.now)) w ∙ e ∙ sym (next ∙ ap (λ b. filter p (map f (take i xs)) ++ cond b (f x ∷ []) []) t ∙ append-nil (filter p (map f (take i xs))))
