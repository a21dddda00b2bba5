-- Marks that grow over a street. Assumes nothing.
use Rattle.std.proofs.Common.{◌≡◌, ℕ, ◌<◌, Bool, true, false, not, eqb, List, length, set, sym, refl, ap, ap₂, ◌∙◌, ⊎_elim, arith}
use Rattle.std.proofs.lemmas.List.{length-set, get_or_past, get_or-set_same, get_or-set_other}
use Rattle.std.proofs.lemmas.Bool.{cases_eq, cases_lt, both_ways, eqb-true, eq-eqb, not-true}
use Rattle.road.specs.Roads.{pick, Leg, Town, into}
use Rattle.road.specs.Counts.{bit, size, one, two, Set, cut, Side, forth, back}
use Rattle.road.specs.Reach.{reached}
use Rattle.road.specs.Model.{marked}
use Rattle.road.specs.Growth.{Grown, unmarked}
use Rattle.road.proofs.Sums.{sum_point}
use Rattle.road.proofs.Reached.{across, reached_start, reached_closed}

-- a leg that begins at the end of a cut street that is inside, and ends at the other
pub leads_out : (t : Town) (k : ℕ) (Z : Set) (l : Leg) (y : ℕ) → l.by ≡ k → l.back ≡ not (Z (one t k)) → cut t Z k ≡ true → y ≡ into t l → (x : ℕ) × Side t k x y × (Z x ≡ true) × (Z y ≡ false)
unfolding into
leads_out t k Z l y by turned c e = at (Z (one t k)) refl
  where
    ends : (b : Bool) → Z (one t k) ≡ b → y ≡ pick (not b) (one t k) (two t k)
    ends b z = e ∙ ap₂ (λ r i. pick r (one t i) (two t i)) (turned ∙ ap not z) by

    at : (b : Bool) → Z (one t k) ≡ b → (x : ℕ) × Side t k x y × (Z x ≡ true) × (Z y ≡ false)
    at true z =
        let o : Z (two t k) ≡ false = not-true (Z (two t k)) (rw z at c) in
        rw (ends true z) (one t k, forth, z, o)
    at false z =
        let o : Z (two t k) ≡ true = rw z at c in
        rw (ends false z) (two t k, back, o, z)

-- one crossing more is marked
pub unmarked_set : (ms : List Bool) (y : ℕ) → length ms ≡ 100 → y < 100 → marked ms y ≡ false → unmarked (set ms y true) < unmarked ms
unmarked_set ms y len h e =
    let s = sum_point 100 y 1 (λ v. bit (not (marked ms v))) (λ v. bit (not (marked (set ms y true) v))) h
    (omega (arith, ap (λ b. bit (not b)) e, ap (λ b. bit (not b)) (get_or-set_same ms y true false (omega arith))))
    (λ k _ ne. ap (λ b. bit (not b)) (sym (get_or-set_other ms y k true false (λ q. ne (sym q))))) in
    omega arith

pub grown_more : (t : Town) (s k x y : ℕ) (ms : List Bool) → Grown t s ms → k < size t → Side t k x y → marked ms x ≡ true → marked ms y ≡ false → y < 100 →
    Grown t s (set ms y true)
grown_more t s k x y ms g h side inside outside below = record {
  places = length-set ms y true ∙ g.places;
  start = get_or-set_other ms y s true false (λ e. both_ways (marked ms y) outside (ap (marked ms) (sym e) ∙ g.start)) ∙ g.start;
  come = λ v m. ⊎_elim (λ e. ap (reached t s) e ∙ there) (λ ne. g.come v (sym (get_or-set_other ms y v true false ne) ∙ m)) (cases_eq v y);
}
  where
    there : reached t s y ≡ true
    there = sym (across t (reached t s) k x y side (reached_closed t s k h)) ∙ g.come x inside

pub grown_start : (t : Town) (s : ℕ) (ms : List Bool) → s < 100 → length ms ≡ 100 → ((v : ℕ) → v < 100 → marked ms v ≡ eqb v s) → Grown t s ms
grown_start t s ms h long is = record {
  places = long;
  start = is s h ∙ eq-eqb s s refl;
  come = λ v m. ⊎_elim (λ lt. ap (reached t s) (eqb-true v s (sym (is v lt) ∙ m)) ∙ reached_start t s) (λ ge. absurd (both_ways _ (get_or_past ms v false (omega arith)) m)) (cases_lt v 100);
}
