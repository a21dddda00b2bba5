-- Euler's theorem: which counts are those of a drive between two crossings, and which of a round. Assumes nothing.
use Rattle.std.proofs.Common.{◌≡◌, ℕ, zero, suc, ◌+◌, ◌*◌, ◌%◌, ◌<◌, ◌≤◌, true, eqb, ◌⊎◌, List, [], ◌∷◌, ◌++◌, refl, ap, ◌∙◌, inl, inr, mul-zero, arith}
use Rattle.std.proofs.lemmas.Bool.{ne_eqb, cases_lt}
use Rattle.road.specs.declared.leg.Leg.{Leg}
use Rattle.road.specs.Roads.{Town, into, Drive, stay, go, Sound, times}
use Rattle.road.specs.Counts.{bit, sum, size, one, two, ends, degree}
use Rattle.road.proofs.Sums.{sum_ext, sum_none, sum_pos, le_sum}
use Rattle.road.proofs.Drives.{along_sum, leg_ends, drive_even, drive_append, times_first, times_append, turned, into_turned, Through, passes}
use Rattle.round.specs.Promise.{Connected, EvenBut, DriveWith, RoundWith, Euler, EulerRound}
use Rattle.round.proofs.Loops.{less, less_sum, less_times, Unused, Extended, extends, closed}

-- a crossing of a drive to which a leg still to be driven leads
record Near (t : Town) (v : ℕ) (ls : List Leg) (s : ℕ → ℕ) (w : ℕ) : Type 0 where
  place : ℕ
  through : Through t v ls place w
  way : Unused t s place

module _ (t : Town) (v w : ℕ) (c : ℕ → ℕ) where
  -- a drive and what is still to be driven
  record Partly : Type 0 where
    legs : List Leg
    left : ℕ → ℕ
    drive : Drive t v legs w
    counts : (k : ℕ) → k < size t → times k legs + left k ≡ c k
    even : (x : ℕ) → degree t left x % 2 ≡ 0

  -- on the road from a crossing of the drive to a street still to be driven, the drive is left somewhere
  near : (p : Partly) {x y : ℕ} {road : List Leg} → Drive t x road y → ((j : ℕ) → j < size t → 0 < times j road → 0 < c j) →
      Through t v p.legs x w → Unused t p.left y → Near t v p.legs p.left w
  unfolding times
  near p (stay x) over on way = record { place = x; through = on; way = way }
  near p (go x y l road h e r) over on way =
      at (cases_lt 0 (p.left l.by)) (λ on'. near p r (λ j i q. over j i (omega arith)) on' way)
    where
      at : (0 < p.left l.by) ⊎ (p.left l.by ≤ 0) → (Through t v p.legs (into t l) w → Near t v p.legs p.left w) →
          Near t v p.legs p.left w
      at (inl q) later = record { place = x; through = on; way = record { leg = turned l; real = h; left = q; to = into_turned t l ∙ e } }
      at (inr q) later = later (passes t l p.drive (omega (arith, p.counts l.by h, over l.by h (omega (arith, times_first l road)))))

  -- where something is still to be driven, somewhere on the drive a leg leads to it
  near_drive : Connected t c v → (p : Partly) → 0 < sum (size t) p.left → Near t v p.legs p.left w
  unfolding into
  near_drive from_start p some = at (sum_pos (size t) p.left some)
    where
      at : (k : ℕ) × (k < size t) × (0 < p.left k) → Near t v p.legs p.left w
      at (k, h, q) =
          let r = from_start k h (omega (arith, p.counts k h)) in
          near p r.1 r.2
          (record { before = []; after = p.legs; whole = refl; there = stay v; thence = p.drive })
          (record { leg = record { by = k; back = true }; real = h; left = q; to = refl })

  -- a closed walk let in where it touches the drive
  longer : (p : Partly) → Near t v p.legs p.left w → (q : Partly) × (sum (size t) q.left < sum (size t) p.left)
  unfolding times
  longer p near = (
    record { legs = legs; left = e.left; drive = drive; counts = counts; even = e.even },
    omega (arith, e.fewer, less_sum (size t) p.left m.leg.by m.real m.left),
  )
    where
      m : Unused t p.left near.place
      m = near.way

      on : Through t v p.legs near.place w
      on = near.through

      e : Extended t (m.leg ∷ []) (less p.left m.leg.by) near.place near.place
      e = closed t p.left near.place m p.even

      legs : List Leg
      legs = on.before ++ (e.legs ++ on.after)

      drive : Drive t v legs w
      drive = drive_append t on.there (drive_append t e.drive on.thence)

      counts : (k : ℕ) → k < size t → times k legs + e.left k ≡ c k
      counts k h =
          omega (
            arith,
            times_append k on.before (e.legs ++ on.after),
            times_append k e.legs on.after,
            times_append k on.before on.after,
            ap (times k) on.whole,
            e.same k,
            less_times k m.leg [] p.left m.left,
            p.counts k h,
          )

  -- until nothing is left
  drives : Connected t c v → (n : ℕ) (p : Partly) → sum (size t) p.left < n → DriveWith t c v w
  drives from_start zero p h = absurd (omega arith)
  drives from_start (suc n) p h = at (cases_lt 0 (sum (size t) p.left)) (drives from_start n)
    where
      at : (0 < sum (size t) p.left) ⊎ (sum (size t) p.left ≤ 0) → ((p : Partly) → sum (size t) p.left < n → DriveWith t c v w) → DriveWith t c v w
      at (inl some) more = let q = longer p (near_drive from_start p some) in more q.0 (omega arith)
      at (inr none) more = (p.legs, p.drive, λ k h. omega (arith, p.counts k h, le_sum (size t) k p.left h))

  -- a first drive from v to w
  begin : EvenBut t c v w → Partly
  unfolding times
  begin even =
      let e = extends t v w (suc (sum (size t) c)) w [] c (omega arith) (stay w) even in
      record { legs = e.legs; left = e.left; drive = e.drive; counts = λ k h. omega (arith, e.same k); even = e.even }

  -- what a drive counts is connected and even
  counted : DriveWith t c v w → Connected t c v × EvenBut t c v w
  unfolding into
  counted (ls, d, same) = (come, even)
    where
      come : Connected t c v
      come k h p =
          let r = passes t (record { by = k; back = true }) d (omega (arith, same k h)) in
          (r.before, r.there, λ j i q. omega (arith, same j i, times_append j r.before r.after, ap (times j) r.whole))

      even : EvenBut t c v w
      even x =
          omega (
            arith,
            drive_even t (λ k. ends t k x) (λ y. bit (eqb y x)) (λ l. omega (arith, leg_ends t l x)) d,
            along_sum t (λ k. ends t k x) d,
            sum_ext (size t) (λ k. times k ls * ends t k x) (λ k. c k * ends t k x) (λ k h. ap (λ n. n * ends t k x) (same k h)),
          )

pub euler : Euler
euler t v w c = (there, counted t v w c)
  where
    there : Connected t c v × EvenBut t c v w → DriveWith t c v w
    there (from_start, even) = let p = begin t v w c even in drives t v w c from_start (suc (sum (size t) p.left)) p (omega arith)

-- no street ends where there is no crossing
degree_away : (t : Town) (depot : ℕ) (c : ℕ → ℕ) (v : ℕ) → Sound t depot → t.crossings ≤ v → degree t c v ≡ 0
degree_away t depot c v sound h = sum_none (size t) (λ k. c k * ends t k v) (λ k i. ap (λ x. c k * x) (none k i) ∙ mul-zero (c k))
  where
    none : (k : ℕ) → k < size t → ends t k v ≡ 0
    none k i =
        let s = sound.inside k i in
        omega (arith, ap bit (ne_eqb (one t k) v (omega arith)), ap bit (ne_eqb (two t k) v (omega arith)))

pub euler_round : EulerRound
euler_round t depot c sound all even = at ((euler t depot depot c).0 (from_depot, λ v. twice v (cases_lt v t.crossings)))
  where
    from_depot : Connected t c depot
    from_depot k h p = let r = sound.joined k h in (r.0, r.1, λ j i q. all j i)

    twice : (v : ℕ) → (v < t.crossings) ⊎ (t.crossings ≤ v) → (degree t c v + bit (eqb depot v) + bit (eqb depot v)) % 2 ≡ 0
    twice v (inl h) = omega (arith, even v h)
    twice v (inr h) = omega (arith, degree_away t depot c v sound h)

    at : DriveWith t c depot depot → RoundWith t c depot
    at (ls, d, same) = (ls, record { drive = d; all = λ k h. omega (arith, same k h, all k h) }, same)
