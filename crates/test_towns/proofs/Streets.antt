-- Lists of streets with one street more, and the crossings of a grid. Assumes nothing.
use Rattle.std.proofs.Common.{◌≡◌, ℕ, ◌+◌, ◌*◌, ◌/◌, ◌%◌, ◌<◌, List, [], ◌∷◌, ◌++◌, refl, arith}
use Rattle.std.proofs.Math.Nat.{div-lt_iff_lt-mul, mul_comm, mul-add, mul-le-mul_left}
use Rattle.std.proofs.lemmas.List.Elements.{All-push}
use Rattle.test_towns.specs.Streets.{Joins, long, AllJoin}

pub join_push : (crossings metres v w : ℕ) (xs ys : List (List ℕ)) → ys ≡ xs ++ (v ∷ w ∷ metres ∷ []) ∷ [] → AllJoin crossings metres xs → v < crossings → w < crossings → AllJoin crossings metres ys
join_push crossings metres v w xs ys e h i j = rw e (All-push (Joins crossings) xs _ h.0 (i, j), All-push (λ s. long s ≡ metres) xs _ h.1 refl)

-- the crossing after v is in its row, so it is one of the grid's
pub next_in_row : (v row high : ℕ) → v < row * high → v % row + 1 < row → v + 1 < row * high
next_in_row v row high h i =
    let q : v / row < high = (div-lt_iff_lt-mul {k = row} {x = v} {y = high} (omega arith)).1 (rw (mul_comm high row) h) in
    omega (arith, mul-le-mul_left {m = v / row + 1} {n = high} row (omega arith), mul-add row (v / row) 1)
