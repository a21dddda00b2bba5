-- What follows of shortest rounds, by counting drives anew. Assumes nothing.
use Rattle.std.proofs.Common.{◌≡◌, ℕ, suc, ◌+◌, ◌*◌, ◌%◌, ◌<◌, ◌≤◌, eqb, ◌⊎◌, List, [], ◌∷◌, refl, ap, inl, inr, arith, length-append}
use Rattle.std.proofs.lemmas.Bool.{eq-eqb, ne_eqb, cases_lt, cases_eq}
use Rattle.std.proofs.lemmas.List.{get_or_append_left, get_or_push}
use Rattle.road.specs.declared.street.Street.{Street}
use Rattle.road.specs.declared.leg.Leg.{Leg}
use Rattle.road.specs.Roads.{pick, no_street, Town, street, Round, Shortest, Sound, times, far}
use Rattle.road.specs.Counts.{bit, sum, size, ends, degree, total}
use Rattle.road.proofs.Sums.{sum_ext}
use Rattle.road.proofs.Drives.{far_sum, far_counts, drive_degree}
use Rattle.round.specs.Promise.{RoundWith, AtMostTwice, AnyDepot, with_street, NewStreet}
use Rattle.round.proofs.Loops.{less, less_here, less_other, less_weighed}
use Rattle.round.proofs.Euler.{euler_round}

-- a shortest round is not longer than any even counts
least_counts : (t : Town) (depot : ℕ) (ls : List Leg) (c : ℕ → ℕ) → Sound t depot → Shortest t depot ls →
    ((k : ℕ) → k < size t → 1 ≤ c k) → ((v : ℕ) → degree t c v % 2 ≡ 0) → far t ls ≤ total t c
least_counts t depot ls c sound short all even = at (euler_round t depot c sound all (λ v _. even v))
  where
    at : RoundWith t c depot → far t ls ≤ total t c
    at (ms, r, same) = omega (arith, short.least ms r, far_counts t c r.drive same)

-- a shortest round is not longer than a round from elsewhere
not_longer : (t : Town) (depot other : ℕ) (ls ms : List Leg) → Sound t depot → Shortest t depot ls → Round t other ms → far t ls ≤ far t ms
not_longer t depot other ls ms sound short r =
    omega (arith, least_counts t depot ls (λ k. times k ms) sound short r.all (λ v. drive_degree t other ms v r.drive), far_sum t r.drive)

pub any_depot : AnyDepot
any_depot t depot other ls ms s₁ s₂ p q = omega (arith, not_longer t depot other ls ms s₁ p q.round, not_longer t other depot ms ls s₂ q p.round)

pub at_most_twice : AtMostTwice
at_most_twice t depot j ls sound short h long = at (cases_lt 2 (times j ls))
  where
    at : (2 < times j ls) ⊎ (times j ls ≤ 2) → times j ls ≤ 2
    at (inr p) = p
    at (inl p) = absurd (omega (arith, least_counts t depot ls c sound short all even, far_sum t short.round.drive, off (λ k. (street t k).long)))
      where
        s : ℕ → ℕ
        s k = times k ls

        c : ℕ → ℕ
        c = less (less s j) j

        once : s j ≡ less s j j + 1
        once = less_here s j (omega arith)

        -- two drives of the street are taken off
        off : (f : ℕ → ℕ) → sum (size t) (λ k. s k * f k) ≡ sum (size t) (λ k. c k * f k) + 2 * f j
        off f = omega (arith, less_weighed (size t) s f j h (omega arith), less_weighed (size t) (less s j) f j h (omega (arith, once)))

        all : (k : ℕ) → k < size t → 1 ≤ c k
        all k i = one (cases_eq j k)
          where
            one : (j ≡ k) ⊎ (j ≡ k → ⊥) → 1 ≤ c k
            one (inl e) = rw (← e) (omega (arith, once, less_here (less s j) j (omega (arith, once))))
            one (inr ne) = omega (arith, short.round.all k i, less_other s j k ne, less_other (less s j) j k ne)

        even : (v : ℕ) → degree t c v % 2 ≡ 0
        even v = omega (arith, drive_degree t depot ls v short.round.drive, off (λ k. ends t k v))

-- the counts of a drive, and the street after the last one out and back
abbrev and_back : Town → List Leg → ℕ → ℕ
and_back t ls k = pick (eqb (size t) k) 2 (times k ls)

module _ (t : Town) (s : Street) where
  -- the streets of the town with one more
  with_size : size (with_street t s) ≡ suc (size t)
  with_size = omega (arith, length-append t.streets (s ∷ []))

  with_old : (k : ℕ) → k < size t → street (with_street t s) k ≡ street t k
  unfolding street
  with_old k h = get_or_append_left t.streets (s ∷ []) no_street k h

  with_new : street (with_street t s) (size t) ≡ s
  unfolding street
  with_new = get_or_push t.streets s no_street (size t) refl

  -- added up over the streets they come to the drive and twice the new street
  with_sum : (ls : List Leg) (g : Street → ℕ) →
      sum (size (with_street t s)) (λ k. and_back t ls k * g (street (with_street t s) k)) ≡ sum (size t) (λ k. times k ls * g (street t k)) + 2 * g s
  unfolding sum
  with_sum ls g =
      let f : ℕ → ℕ = λ k. and_back t ls k * g (street (with_street t s) k) in
      omega (arith, ap (λ n. sum n f) with_size, new, sum_ext (size t) f (λ k. times k ls * g (street t k)) old)
    where
      old : (k : ℕ) → k < size t → and_back t ls k * g (street (with_street t s) k) ≡ times k ls * g (street t k)
      old k h = rw (ne_eqb (size t) k (omega arith), with_old k h)

      new : and_back t ls (size t) * g (street (with_street t s) (size t)) ≡ 2 * g s
      new = rw (eq-eqb (size t) (size t) refl, with_new)

pub new_street : NewStreet
new_street t depot s ls ms sound short sound' short' =
    let bound = least_counts (with_street t s) depot ms (and_back t ls) sound' short' all even in
    omega (arith, far_sum t short.round.drive, with_sum t s ls (λ s. s.long))
  where
    all : (k : ℕ) → k < size (with_street t s) → 1 ≤ and_back t ls k
    all k h = one (cases_eq (size t) k)
      where
        one : (size t ≡ k) ⊎ (size t ≡ k → ⊥) → 1 ≤ and_back t ls k
        one (inl e) = rw (eq-eqb (size t) k e) (omega arith)
        one (inr ne) = rw (ne_eqb (size t) k ne) (short.round.all k (omega (arith, with_size t s)))

    even : (v : ℕ) → degree (with_street t s) (and_back t ls) v % 2 ≡ 0
    even v = omega (arith, drive_degree t depot ls v short.round.drive, with_sum t s ls (λ s. bit (eqb s.one v) + bit (eqb s.two v)))
