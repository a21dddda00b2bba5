-- Every sound town has a plan: a round over every street and the least extra drives, by Euler's theorem, with the sheet of these. Assumes nothing.
use Rattle.std.proofs.Common.{◌≡◌, ℕ, ◌+◌, ◌*◌, Bool, true, false, arith}
use Rattle.road.specs.Roads.{Town, street, far, all_streets}
use Rattle.road.specs.Counts.{when, bit, size, Set, total}
use Rattle.road.proofs.Sums.{sum_ext, sum_add}
use Rattle.road.proofs.Drives.{far_counts, all_streets_sum}
use Rattle.sheet.specs.Sheet.{weights}
use Rattle.sheet.specs.Shown.{Accepted}
use Rattle.sheet.proofs.Right.{accepted}
use Rattle.join.specs.Extra.{counts, extra_length}
use Rattle.join.proofs.Theorem.{extra_drives}
use Rattle.round.specs.Promise.{Planned}
use Rattle.round.proofs.Euler.{euler_round}

-- each street once and the extra drives, altogether
pub counts_total : (t : Town) (J : Set) → total t (counts J) ≡ all_streets t.streets + extra_length t J
counts_total t J =
    let long : ℕ → ℕ = λ k. (street t k).long in
    let apart = sum_ext (size t) (λ k. counts J k * long k) (λ k. long k + when (J k) (long k)) (λ k _. once (J k) (long k)) in
    omega (arith, apart, sum_add (size t) long (λ k. when (J k) (long k)), all_streets_sum t)
  where
    once : (b : Bool) (n : ℕ) → (1 + bit b) * n ≡ n + when b n
    once true n = omega arith
    once false n = omega arith

pub planned : Planned
unfolding Accepted
planned t depot sound =
    let x = extra_drives t depot sound in
    let J = x.0 in
    let ps = x.1 in
    let r = euler_round t depot (counts J) sound (λ k h. omega arith) (λ v _. x.2 v) in
    let agree : 2 * far t r.0 ≡ 2 * all_streets t.streets + weights ps = omega (arith, far_counts t (counts J) r.1.drive r.2, counts_total t J, x.4) in
    (r.0, ps, accepted t depot ps r.0 x.3 r.1 agree, x.3, agree, x.5)
