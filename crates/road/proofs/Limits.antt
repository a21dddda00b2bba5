-- The limits of a street and their test. Assumes nothing.
use Rattle.std.proofs.Common.{◌≡◌, ℕ, true, ◌&&◌, ltb, leb}
use Rattle.std.proofs.lemmas.Bool.{and_parts, and_from, ltb-true, lt-ltb, leb-true, le-leb}
use Rattle.road.specs.Roads.{Street}
use Rattle.road.specs.Limits.{Within, within}

pub within_true : (n : ℕ) (s : Street) → within n s ≡ true → Within n s
within_true n s e =
    let p = and_parts (ltb s.one n) (ltb s.two n && leb s.long 100000) e in
    let q = and_parts (ltb s.two n) (leb s.long 100000) p.1 in
    (ltb-true s.one n p.0, ltb-true s.two n q.0, leb-true s.long 100000 q.1)

pub true_within : (n : ℕ) (s : Street) → Within n s → within n s ≡ true
true_within n s w =
    and_from (ltb s.one n) (ltb s.two n && leb s.long 100000) (lt-ltb s.one n w.0)
    (and_from (ltb s.two n) (leb s.long 100000) (lt-ltb s.two n w.1) (le-leb s.long 100000 w.2))
