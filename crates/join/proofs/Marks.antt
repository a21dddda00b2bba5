-- Sets of crossings as the marks of a part. Assumes nothing.
use Rattle.std.proofs.Common.{◌≡◌, ℕ, ◌%◌, ◌<◌, Bool, true, false, ◌&&◌, List, map, ap, ◌∙◌, ap₂, zero-add}
use Rattle.std.specs.List.{range_with_len}
use Rattle.std.proofs.lemmas.List.FromFn.{get_or-map-range_with_len}
use Rattle.road.specs.Roads.{Town, street}
use Rattle.road.specs.Counts.{◌⊕◌, when, bit, odd, par, size, one, two, Set, cut, all}
use Rattle.road.specs.Model.{marked}
use Rattle.road.proofs.Parity.{odd_bit, odd_mod}
use Rattle.road.proofs.Sums.{par_ext, odd_sum}
use Rattle.sheet.specs.Sheet.{leads_out, ways_out}
use Rattle.sheet.proofs.Borders.{leads_cut, ways_out_sum}
use Rattle.join.specs.Joins.{out}
use Rattle.join.specs.Extra.{Inside}

-- a list of marks
abbrev pub table : ℕ → Set → List Bool
table n Z = map Z (range_with_len 0 n)

-- what it has at a place
pub table_at : (n : ℕ) (Z : Set) (v : ℕ) → v < n → marked (table n Z) v ≡ Z v
table_at n Z v h = get_or-map-range_with_len Z 0 n v v false h (zero-add v)

-- marks that agree with a set at the crossings of the town
module _ (t : Town) (inside : Inside t) (Z : Set) (ms : List Bool) (agree : (v : ℕ) → v < t.crossings → marked ms v ≡ Z v) where
  -- they cut the streets that the set cuts
  marks_cut : (k : ℕ) → k < size t → leads_out ms (street t k) ≡ cut t Z k
  marks_cut k h =
      leads_cut t ms k ∙ ap₂ (λ a b. a ⊕ b) (agree (one t k) (inside k h).0) (agree (two t k) (inside k h).1)

  -- an odd border, as the sheet says it
  pub marks_odd : out t all Z ≡ true → ways_out ms t.streets % 2 ≡ 1
  unfolding out
  marks_odd q = odd_mod (ways_out ms t.streets) ∙ ap bit (ap odd (ways_out_sum t ms) ∙ odd_sum (size t) (λ k. bit (leads_out ms (street t k))) ∙ same ∙ q)
    where
      same : par (size t) (λ k. odd (bit (leads_out ms (street t k)))) ≡ par (size t) (λ k. all k && cut t Z k)
      same =
          par_ext (size t) (λ k. odd (bit (leads_out ms (street t k)))) (λ k. all k && cut t Z k)
          (λ k h. odd_bit (leads_out ms (street t k)) ∙ marks_cut k h)

  -- the load of a part
  pub marks_load : (e k : ℕ) → k < size t → when (leads_out ms (street t k)) e ≡ when (cut t Z k) e
  marks_load e k h = ap (λ z. when z e) (marks_cut k h)
