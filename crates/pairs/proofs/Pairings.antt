-- Pairings of the odd crossings: walk by walk, how long they are, and that none is shorter than the least extra drives. Assumes nothing.
use Rattle.std.proofs.Common.{◌≡◌, ℕ, zero, suc, ◌+◌, ◌*◌, ◌<◌, ◌≤◌, Bool, true, false, eqb, List, [], ◌∷◌, ◌++◌, sym, refl, ap, ◌∙◌, ap₂, suc-mul, add-mul, zero-mul, arith}
use mathlib.Core.Path.{fun_ext}
use Rattle.std.proofs.lemmas.List.{map-append}
use Rattle.std.proofs.lemmas.Bool.{eq-eqb}
use Rattle.road.specs.Roads.{Town, street, times}
use Rattle.road.specs.Counts.{◌⊕◌, when, bit, odd, size, Set, all, total}
use Rattle.road.proofs.Parity.{xor_twice, odd_add, odd_bit}
use Rattle.road.proofs.Sums.{sum_ext, sum_add, sum_le, sum_none, le_sum}
use Rattle.road.proofs.Drives.{far_sum}
use Rattle.join.specs.Joins.{single, out, Joins, once}
use Rattle.join.specs.Extra.{Inside, extra_length}
use Rattle.join.specs.Odd.{odd_at, odds, streets_of}
use Rattle.join.proofs.Joins.{out_xor, out_none}
use Rattle.join.proofs.Linear.{linear_once, join_singles}
use Rattle.join.proofs.Pairing.{drive_streets}
use Rattle.join.proofs.StreetSets.{when_le}
use Rattle.pairs.specs.declared.pair.Pair.{Pair}
use Rattle.pairs.specs.Walks.{Walk, walk_of, IsWalk, walk_ends, Each, Taken}
use Rattle.pairs.specs.Pairings.{walks_of, over, ends_at, drives_of, far_of, Pairing, NoShorter, Paired}
use Rattle.pairs.proofs.Walks.{each_append}

-- one walk more
over_push : (f : Walk → ℕ) (qs : List Walk) (q : Walk) → over f (qs ++ q ∷ []) ≡ over f qs + f q
over_push f [] q = omega arith
over_push f (p ∷ qs) q = omega (arith, over_push f qs q)

-- how far walks are, counted over the streets
pub far_total : (t : Town) (qs : List Walk) → Each (IsWalk t) qs → far_of t qs ≡ total t (λ k. drives_of k qs)
far_total t [] u = sym (sum_none (size t) (λ k. 0 * (street t k).long) (λ k _. zero-mul (street t k).long))
far_total t (q ∷ qs) (d, ds) =
    ap₂ (λ a b. a + b) (far_sum t d) (far_total t qs ds)
    ∙ sym (
    sum_ext (size t) (λ k. (times k q.legs + drives_of k qs) * (street t k).long) (λ k. times k q.legs * (street t k).long + drives_of k qs * (street t k).long)
    (λ k _. add-mul (times k q.legs) (drives_of k qs) (street t k).long)
    ∙ sum_add (size t) (λ k. times k q.legs * (street t k).long) (λ k. drives_of k qs * (street t k).long)
    )

-- the streets that walks drive an odd number of times
abbrev pub odd_streets : List Walk → Set
odd_streets qs = λ k. odd (drives_of k qs)

-- they have an odd number of ends where an odd number of the walks end
pub walks_out : (t : Town) (qs : List Walk) → Each (IsWalk t) qs → (v : ℕ) → out t (odd_streets qs) (single v) ≡ odd (ends_at v qs)
walks_out t [] u v = out_none t (λ _. false) (single v) (λ k _ _. refl)
walks_out t (q ∷ qs) (d, ds) v =
    ap (λ (J : Set). out t J (single v)) (fun_ext (λ k. odd_add (times k q.legs) (drives_of k qs)))
    ∙ out_xor t (streets_of q.legs) (odd_streets qs) (single v)
    ∙ ap₂ (λ a b. a ⊕ b) (drive_streets t q.one q.two q.legs d (single v)) (walks_out t qs ds v)
    ∙ sym (odd_add (walk_ends v q) (ends_at v qs) ∙ ap (λ x. x ⊕ odd (ends_at v qs)) (odd_add (bit a) (bit b) ∙ ap₂ (λ x y. x ⊕ y) (odd_bit a) (odd_bit b)))
  where
    a : Bool
    a = eqb q.one v

    b : Bool
    b = eqb q.two v

-- so the streets of a pairing are extra drives
pub pairing_join : (t : Town) (r : ℕ) (qs : List Walk) → Inside t → r < t.crossings → Pairing t qs → Joins t (once t all r) r (odd_streets qs)
pairing_join t r qs inside hr p =
    join_singles t (once t all r) (linear_once t all r inside hr) inside r hr (odd_streets qs)
    (λ v h. walks_out t qs p.drives v ∙ p.ends v h ∙ sym (xor_twice (out t all (single v)) (single v r)))

-- and no longer than the walks
pub pairing_length : (t : Town) (qs : List Walk) → Each (IsWalk t) qs → extra_length t (odd_streets qs) ≤ far_of t qs
pairing_length t qs ds =
    let s = sum_le (size t) (λ k. when (odd_streets qs k) (street t k).long) (λ k. drives_of k qs * (street t k).long) (λ k _. at (drives_of k qs) (street t k).long) in
    omega (arith, far_total t qs ds, s)
  where
    at : (n l : ℕ) → when (odd n) l ≤ n * l
    at zero l = omega arith
    at (suc n) l = when_le (odd (suc n)) l (suc n * l) (omega (arith, suc-mul n l))

-- walks that are taken off J one by one: L is left
pub record Left (t : Town) (J L : Set) (ps : List Walk) : Type 0 where
  pub drives : Each (IsWalk t) ps
  pub taken : (k : ℕ) → drives_of k ps + bit (L k) ≡ bit (J k)
  pub ends : (v : ℕ) → ends_at v ps + bit (odd_at t L v) ≡ bit (odd_at t J v)

pub left_start : (t : Town) (J L : Set) (ps : List Pair) → L ≡ J → ps ≡ [] → Left t J L (walks_of ps)
left_start t J L ps e f = rw (e, f) (record { drives = tt; taken = λ k. omega arith; ends = λ v. omega arith })

pub left_more : (t : Town) (J L L' : Set) (ps ps' : List Pair) (p : Pair) → ps' ≡ ps ++ p ∷ [] → Left t J L (walks_of ps) → Taken t L L' (walk_of p) → Left t J L' (walks_of ps')
left_more t J L L' ps ps' p e s w = rw (e, map-append walk_of ps (p ∷ [])) (record {
  drives = each_append (IsWalk t) (walks_of ps) (walk_of p ∷ []) s.drives (w.drive, tt);
  taken = λ k. omega (arith, s.taken k, w.taken k, over_push (λ q. times k q.legs) (walks_of ps) (walk_of p));
  ends = λ v. omega (arith, s.ends v, w.ends v, over_push (walk_ends v) (walks_of ps) (walk_of p));
})

-- a walk leaves fewer odd crossings
pub left_fewer : (t : Town) (J L : Set) (q : Walk) → q.one < t.crossings → Taken t J L q → odds t L < odds t J
left_fewer t J L q h w =
    let n = t.crossings in
    let ends = sum_ext n (λ v. walk_ends v q + bit (odd_at t L v)) (λ v. bit (odd_at t J v)) (λ v _. w.ends v) in
    let apart = sum_add n (λ v. walk_ends v q) (λ v. bit (odd_at t L v)) in
    let here = le_sum n q.one (λ v. walk_ends v q) h in
    omega (arith, ends, apart, here, ap bit (eq-eqb q.one q.one refl))

-- what is left at the end is as long as what the walks lack
left_length : (t : Town) (J L : Set) (ps : List Walk) → Left t J L ps → far_of t ps + extra_length t L ≡ extra_length t J
left_length t J L ps s =
    ap (λ n. n + extra_length t L) (far_total t ps s.drives)
    ∙ sym (sum_add (size t) (λ k. drives_of k ps * (street t k).long) (λ k. when (L k) (street t k).long))
    ∙ sum_ext (size t) (λ k. drives_of k ps * (street t k).long + when (L k) (street t k).long) (λ k. when (J k) (street t k).long)
    (λ k _. at (drives_of k ps) (L k) (J k) (street t k).long (s.taken k))
  where
    at : (n : ℕ) (a b : Bool) (l : ℕ) → n + bit a ≡ bit b → n * l + when a l ≡ when b l
    at n a b l e = ap (λ x. n * l + x) (weigh a) ∙ sym (add-mul n (bit a) l) ∙ ap (λ x. x * l) e ∙ sym (weigh b)
      where
        weigh : (b : Bool) → when b l ≡ bit b * l
        weigh true = omega arith
        weigh false = omega arith

-- no extra drives are shorter than J
abbrev pub LeastExtra : Town → ℕ → Set → Type 0
LeastExtra t r J = (K : Set) → Joins t (once t all r) r K → extra_length t J ≤ extra_length t K

module _ (t : Town) (inside : Inside t) (r : ℕ) (home : r < t.crossings) (J : Set) (low : LeastExtra t r J) where
  -- so no pairing is
  pub pairing_least : (qs : List Walk) → Pairing t qs → extra_length t J ≤ far_of t qs
  pairing_least qs p = omega (arith, low (odd_streets qs) (pairing_join t r qs inside home p), pairing_length t qs p.drives)

  -- and the walks are as long as J, once no crossing is left odd
  pub left_paired : Joins t (once t all r) r J → (L : Set) (ps : List Walk) → Left t J L ps → ((v : ℕ) → v < t.crossings → odd_at t L v ≡ false) → Paired t J ps × NoShorter t ps
  left_paired joins L ps s even = (
    record { drives = s.drives; ends = ends; apart = λ k. omega (arith, s.taken k); together = together },
    λ qs p. omega (arith, together, pairing_least qs p),
  )
    where
      ends : (v : ℕ) → v < t.crossings → ends_at v ps ≡ bit (odd_at t all v)
      ends v h = omega (arith, s.ends v, ap bit (even v h), ap bit (joins (single v) ∙ xor_twice (odd_at t all v) (single v r)))

      together : far_of t ps ≡ extra_length t J
      together =
          let p : Pairing t ps = record { drives = s.drives; ends = λ v h. ap odd (ends v h) ∙ odd_bit (odd_at t all v) } in
          omega (arith, left_length t J L ps s, pairing_least ps p)
