-- Texts that are looked up among others. Assumes nothing.
use Rattle.std.proofs.Common.{◌≡◌, ℕ, Bool, true, false, cond, not, ◌||◌, List, [], ◌∷◌, map, find, Option, Some, None, option_map, bytes_eq, refl, ap, ap₂, ◌∙◌, Bor}
use Rattle.std.specs.List.{list_any}
use Rattle.files.specs.Arguments.{first_unknown}

pub any_map : {X Y : Type 0} (f : X → Y) (p : Y → Bool) (xs : List X) → list_any (λ x. p (f x)) xs ≡ list_any p (map f xs)
any_map f p [] = refl
any_map f p (x ∷ xs) = ap (λ b. p (f x) || b) (any_map f p xs)

either : {X Y : Type 0} (f : X → Y) (b : Bool) (x y : Option X) → option_map f (cond b x y) ≡ cond b (option_map f x) (option_map f y)
either f true x y = refl
either f false x y = refl

find_map : {X Y : Type 0} (f : X → Y) (p : X → Bool) (q : Y → Bool) → ((x : X) → p x ≡ q (f x)) → (xs : List X) → option_map f (find p xs) ≡ find q (map f xs)
find_map f p q e [] = refl
find_map f p q e (x ∷ xs) =
    either f (p x) (Some x) (find p xs)
    ∙ ap₂ (λ b o. cond b (Some (f x)) o) (e x) (find_map f p q e xs)

same : {X : Type 0} (r : Option X) → r ≡ option_map (λ x. x) r
same None = refl
same (Some x) = refl

-- the first that is not known
pub found : (known options : List (Bor (List ℕ))) (r : Option (Bor (List ℕ))) →
    option_map (λ x. x) r ≡ find (λ o. not (list_any (λ k. bytes_eq k.now o.now) known)) options →
    option_map (λ o. o.now) r ≡ first_unknown (map (λ k. k.now) known) (map (λ o. o.now) options)
found known options r e =
    ap (option_map (λ o. o.now)) (same r ∙ e)
    ∙ find_map (λ o. o.now) _ (λ x. not (list_any (λ k. bytes_eq k x) (map (λ k. k.now) known))) (λ o. ap not (any_map (λ k. k.now) (λ k. bytes_eq k o.now) known)) options
