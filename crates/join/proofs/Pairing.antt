-- Odd crossings, and how a way between two of them changes them. Assumes nothing.
use Rattle.std.proofs.Common.{◌≡◌, ℕ, ◌+◌, ◌*◌, ◌%◌, ◌≤◌, Bool, false, ◌&&◌, eqb, List, [], ◌∷◌, ◌++◌, sym, refl, ap, ◌∙◌, subst, ⊎_elim, arith}
use mathlib.Core.Path.{fun_ext}
use Rattle.std.proofs.lemmas.Bool.{cases_eq, eq-eqb, ne_eqb}
use Rattle.road.specs.declared.leg.Leg.{Leg}
use Rattle.road.specs.Roads.{Town, Drive, times}
use Rattle.road.specs.Counts.{◌⊕◌, bit, odd, size, Set, cut}
use Rattle.road.specs.declared.town.Town as town
use Rattle.road.specs.Limits.{Within}
use Rattle.road.specs.Model.{model}
use Rattle.road.proofs.Drives.{drive_below}
use Rattle.road.proofs.Parity.{xor_same, xor_assoc, odd_add, odd_mul, odd_bit}
use Rattle.road.proofs.Sums.{par_ext, odd_sum}
use Rattle.road.proofs.Drives.{along, along_sum, drive_cut, times_append, times_first, times_other}
use Rattle.road.proofs.Models.{size_model, street_model}
use Rattle.join.specs.Joins.{◌⊞◌, single, out, Joins, at}
use Rattle.join.specs.Odd.{odd_at, streets_of, Low}
use Rattle.join.specs.Extra.{Inside}
use Rattle.join.proofs.Joins.{odd_none, out_xor}

-- the streets of no leg, and of one leg more
pub streets_none : streets_of [] ≡ (λ _. false)
unfolding times
streets_none = refl

pub streets_push : (ls : List Leg) (l : Leg) → streets_of (ls ++ l ∷ []) ≡ streets_of ls ⊞ single l.by
unfolding times
streets_push ls l = fun_ext (λ k. ap odd (times_append k ls (l ∷ [])) ∙ odd_add (times k ls) (times k (l ∷ [])) ∙ ap (λ z. odd (times k ls) ⊕ z) (here k))
  where
    here : (k : ℕ) → odd (times k (l ∷ [])) ≡ eqb k l.by
    here k = ⊎_elim
        (λ e. ap odd (ap (λ z. times z (l ∷ [])) e ∙ times_first l []) ∙ sym (eq-eqb k l.by e))
        (λ ne. ap odd (times_other k l [] (λ e. ne (sym e))) ∙ sym (ne_eqb k l.by ne))
        (cases_eq k l.by)

-- the streets of a drive join its ends
pub drive_streets : (t : Town) (v w : ℕ) (ls : List Leg) → Drive t v ls w → Joins t (at v) w (streets_of ls)
unfolding out
drive_streets t v w ls d Z =
    par_ext (size t) (λ k. odd (times k ls) && cut t Z k) (λ k. odd (times k ls * bit (cut t Z k))) (λ k _. sym (odd_mul (times k ls) (bit (cut t Z k)) ∙ ap (λ b. odd (times k ls) && b) (odd_bit (cut t Z k))))
    ∙ sym (odd_sum (size t) (λ k. times k ls * bit (cut t Z k)))
    ∙ ap odd (sym (along_sum t (λ k. bit (cut t Z k)) d))
    ∙ ends (along (λ k. bit (cut t Z k)) ls) (Z v) (Z w) (drive_cut t Z d)
  where
    ends : (n : ℕ) (a b : Bool) → (n + bit a + bit b) % 2 ≡ 0 → odd n ≡ a ⊕ b
    ends n a b e =
        let s : odd (n + bit a + bit b) ≡ odd n ⊕ (a ⊕ b) = simp (odd_add, odd_bit, xor_assoc) in
        xor_same (odd n) (a ⊕ b) (sym s ∙ odd_none (n + bit a + bit b) e)

-- the legs of a drive are of streets of the town
pub drive_low : (t : Town) {v w : ℕ} {ls : List Leg} → size t ≤ 300 → Drive t v ls w → Low ls
drive_low t few d i h = omega (arith, drive_below t d i h)

-- a set that joins two odd crossings makes both even, and changes no other
pub odd_changed : (t : Town) (K Q : Set) (v w : ℕ) → Joins t (at v) w Q → (u : ℕ) → odd_at t (K ⊞ Q) u ≡ (odd_at t K u ⊕ eqb v u) ⊕ eqb w u
odd_changed t K Q v w q u = out_xor t K Q (single u) ∙ ap (λ z. odd_at t K u ⊕ z) (q (single u)) ∙ sym (xor_assoc (odd_at t K u) (eqb v u) (eqb w u))

-- the streets of a town of the code end at its crossings
pub inside_model : (t : town.Town) → Inside (model t)
inside_model t k h =
    let e = street_model t k (omega (arith, size_model t)) in
    let w = subst (Within t.crossings) (sym e) (t.within k (omega (arith, size_model t))) in
    (w.0, w.1)
