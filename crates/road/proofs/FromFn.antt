-- Arrays that `from_fn` makes with a closure that changes nothing. Assumes nothing.
use Rattle.std.proofs.Common.{◌≡◌, ℕ, zero, suc, ◌+◌, ◌<◌, List, get_or, ◌∙◌, subst, arith}
use Rattle.std.specs.Array.{IsFromFnResult, IsFromFnResultFrom}
use denote.Param.Members.{Mut, Called}

-- where each call gives v of the place, and leaves the closure as it was
module _ {F B : Type 0} (g : Mut F (ℕ × Unit {0}) B) (f : F) (ys : List B) (n : ℕ) (v : ℕ → B)
    (pure : (k : ℕ) (y : B) (q : F) → k < n → Called g f (k, tt) y q → (q ≡ f) × (y ≡ v k)) where
  from : (i m k j : ℕ) (d : B) → i + m ≡ n → i + k ≡ j → IsFromFnResultFrom g f ys i m → k < m → get_or ys j d ≡ v j
  from i zero k j d l p e h = absurd (omega arith)
  from i (suc m) zero j d l p e h =
      let z : i ≡ j = omega arith in
      subst (λ j. get_or ys j d ≡ v j) z (e.2.1 d ∙ (pure i e.1 e.0 (omega arith) e.3).1)
  from i (suc m) (suc k) j d l p e h =
      from (i + 1) m k j d (omega arith) (omega arith) (subst (λ (p : F). IsFromFnResultFrom g p ys (i + 1) m) (pure i e.1 e.0 (omega arith) e.3).0 e.4) (omega arith)

  all_from : IsFromFnResult g f ys n → (k : ℕ) (d : B) → k < n → get_or ys k d ≡ v k
  all_from r k d h = from 0 n k k d (omega arith) (omega arith) r.each h

-- the array holds v at each place
pub holds_each : {F B : Type 0} {g : Mut F (ℕ × Unit {0}) B} {f : F} {ys : List B} {n : ℕ} (v : ℕ → B) → IsFromFnResult g f ys n →
    ((k : ℕ) (y : B) (q : F) → k < n → Called g f (k, tt) y q → (q ≡ f) × (y ≡ v k)) → (k : ℕ) (d : B) → k < n → get_or ys k d ≡ v k
holds_each {g = g} {f = f} {ys = ys} {n = n} v r pure = all_from g f ys n v pure r
