-- A sheet is right: what its parts weigh is driven beside each street once. Assumes nothing.
use Rattle.std.proofs.Common.{◌≡◌, ℕ, suc, ◌+◌, ◌-◌, ◌*◌, ◌%◌, ◌<◌, ◌≤◌, Bool, true, false, List, [], ◌∷◌, length, get_or, ap, ◌∙◌, suc-mul, mul_comm, mul-le-mul_left, mul-zero, mul-add, mul_left_comm, arith}
use Rattle.road.specs.declared.leg.Leg.{Leg}
use Rattle.road.specs.Roads.{pick, Town, street, Round, times}
use Rattle.road.specs.Counts.{bit, sum, size}
use Rattle.road.proofs.Sums.{sum_ext, sum_add, sum_le, sum_scale}
use Rattle.road.proofs.Drives.{far_sum, all_streets_sum}
use Rattle.sheet.specs.Sheet.{Part, no_part, leads_out, ways_out, load, weights}
use Rattle.sheet.specs.Shown.{crosses, HomeEven, Twice, SheetRight, Accepted}
use Rattle.sheet.proofs.Borders.{leads, crossings_of, home_even, crosses_sum, ways_out_sum}

-- how often a street is driven beside the first time
abbrev extra : List Leg → ℕ → ℕ
extra ls k = times k ls - 1

-- what a round adds up is each street once, and the extra drives
round_sum : (t : Town) (depot : ℕ) (ls : List Leg) (f : ℕ → ℕ) → Round t depot ls →
    sum (size t) (λ k. times k ls * f k) ≡ sum (size t) f + sum (size t) (λ k. extra ls k * f k)
round_sum t depot ls f r = sum_ext (size t) (λ k. times k ls * f k) (λ k. f k + extra ls k * f k) once ∙ sum_add (size t) f (λ k. extra ls k * f k)
  where
    once : (k : ℕ) → k < size t → times k ls * f k ≡ f k + extra ls k * f k
    once k h =
        let e : times k ls ≡ suc (extra ls k) = omega (arith, r.all k h) in
        ap (λ x. x * f k) e ∙ omega (arith, suc-mul (extra ls k) (f k))

-- a round crosses a border once over each street that leads out, and by its extra drives
crosses_extra : (t : Town) (depot : ℕ) (ms : List Bool) (ls : List Leg) → Round t depot ls →
    crosses t ms ls ≡ ways_out ms t.streets + crossings_of t ms (extra ls)
crosses_extra t depot ms ls r = omega (arith, crosses_sum t ms r.drive, round_sum t depot ls (leads t ms) r, ways_out_sum t ms)

-- where an odd number of streets lead out, an extra drive does
odd_extra : (t : Town) (depot : ℕ) (ms : List Bool) (ls : List Leg) → Round t depot ls → ways_out ms t.streets % 2 ≡ 1 →
    1 ≤ crossings_of t ms (extra ls)
unfolding HomeEven
odd_extra t depot ms ls r odd = omega (arith, home_even t ms depot ls r.drive, crosses_extra t depot ms ls r)

pub twice : Twice
unfolding Twice
twice t depot ms ls r odd = omega (arith, odd_extra t depot ms ls r odd, crosses_extra t depot ms ls r)

-- a part that is crossed weighs on the drives that cross it
part_bears : (t : Town) (ms : List Bool) (w : ℕ) (x : ℕ → ℕ) → 1 ≤ crossings_of t ms x → w ≤ sum (size t) (λ k. x k * pick (leads_out ms (street t k)) w 0)
part_bears t ms w x one =
    let scaled =
    sum_ext (size t) (λ k. x k * pick (leads_out ms (street t k)) w 0) (λ k. w * (x k * leads t ms k)) (λ k h. scale (x k) (leads_out ms (street t k)))
    ∙ sum_scale (size t) w (λ k. x k * leads t ms k) in
    omega (arith, scaled, mul-le-mul_left w one)
  where
    scale : (y : ℕ) (b : Bool) → y * pick b w 0 ≡ w * (y * bit b)
    scale y true = mul_comm y w ∙ ap (λ z. w * z) (omega arith)
    scale y false = omega (arith, mul-zero w, mul-zero y, ap (λ z. w * z) (mul-zero y))

-- the extra drives bear what the parts weigh
weights_le : (t : Town) (depot : ℕ) (ls : List Leg) (ps : List Part) → Round t depot ls
    → ((i : ℕ) → i < length ps → ways_out (get_or ps i no_part).marks t.streets % 2 ≡ 1)
    → weights ps ≤ sum (size t) (λ k. extra ls k * load ps (street t k))
unfolding weights load
weights_le t depot ls [] r odd = omega arith
weights_le t depot ls (p ∷ ps) r odd =
    let here : ℕ → ℕ = λ k. extra ls k * pick (leads_out p.marks (street t k)) p.weight 0 in
    let later : ℕ → ℕ = λ k. extra ls k * load ps (street t k) in
    let apart =
    sum_ext (size t) (λ k. extra ls k * load (p ∷ ps) (street t k)) (λ k. here k + later k)
    (λ k h. mul-add (extra ls k) (pick (leads_out p.marks (street t k)) p.weight 0) (load ps (street t k))) in
    omega (
      arith,
      apart,
      sum_add (size t) here later,
      weights_le t depot ls ps r (λ i h. odd (suc i) (omega arith)),
      part_bears t p.marks p.weight (extra ls) (odd_extra t depot p.marks ls r (odd 0 (omega arith))),
    )

pub sheet_right : SheetRight
unfolding SheetRight
sheet_right t depot ps ls s r =
    let long : ℕ → ℕ = λ k. (street t k).long in
    let borne =
    sum_le (size t) (λ k. extra ls k * load ps (street t k)) (λ k. 2 * (extra ls k * long k))
    (λ k h. omega (arith, mul-le-mul_left (extra ls k) (s.bears k h), mul_left_comm (extra ls k) 2 (long k))) in
    omega (
      arith,
      borne,
      sum_scale (size t) 2 (λ k. extra ls k * long k),
      weights_le t depot ls ps r s.odd,
      far_sum t r.drive,
      all_streets_sum t,
      round_sum t depot ls long r,
    )

pub accepted : Accepted
unfolding Accepted SheetRight
accepted t depot ps ls s r e = record { round = r; least = λ ms q. omega (arith, sheet_right t depot ps ms s q) }
