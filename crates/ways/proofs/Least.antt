-- Laws of the least length of drives. Assumes nothing.
use Rattle.std.proofs.Common.{false, [], ◌∷◌, ◌++◌, refl, ◌∙◌, arith}
use Rattle.road.specs.declared.Leg.{Leg}
use Rattle.road.specs.Roads.{stay, go, from, into, far}
use Rattle.road.proofs.Drives.{drive_append, far_append, turned_round, drive_turned, far_turned}
use Rattle.ways.specs.Laws.{LeastSelf, LeastTurned, LeastThrough, LeastStreet}

pub least_self : LeastSelf
unfolding far
least_self t v = record { some = ([], stay v, refl); least = λ ls d. omega arith }

pub least_turned : LeastTurned
least_turned t v w d p = record {
  some = (turned_round p.some.0, drive_turned t p.some.1, far_turned t p.some.0 ∙ p.some.2);
  least = λ ls r. omega (arith, p.least (turned_round ls) (drive_turned t r), far_turned t ls);
}

pub least_through : LeastThrough
least_through t u v w a b c p q r =
    omega (arith, r.least (p.some.0 ++ q.some.0) (drive_append t p.some.1 q.some.1), far_append t p.some.0 q.some.0, p.some.2, q.some.2)

pub least_street : LeastStreet
unfolding from into far
least_street t k d h p =
    let l : Leg = record { by = k; back = false } in
    omega (arith, p.least (l ∷ []) (go (from t l) (into t l) l [] h refl (stay (into t l))))
