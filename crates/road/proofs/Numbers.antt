-- Streets as three numbers each, and legs as one. Assumes nothing.
use Rattle.std.proofs.Common.{◌≡◌, ℕ, zero, suc, ◌+◌, ◌*◌, ◌/◌, ◌%◌, Bool, true, false, eqb, ◌<◌, ◌≤◌, List, length, get_or, take, drop, sym, refl, map, [], ◌∷◌, ap, ap₂, ◌∙◌, arith}
use Rattle.std.proofs.Math.ListN.{get_or-map}
use Rattle.std.proofs.lemmas.List.{ext_get_or, get_or-take, length-take-le}
use Rattle.std.specs.Simd.{first_chunks}
use Rattle.road.specs.declared.leg.Leg.{Leg}
use Rattle.road.specs.Roads.{Street, street, no_street}
use Rattle.road.specs.Counts.{bit, size}
use Rattle.road.specs.Numbers.{street_of, streets_in, town_in, leg_in, legs_in, leg_number}

pub length_streets : (n : ℕ) (xs : List ℕ) → length (streets_in n xs) ≡ n
unfolding streets_in
length_streets zero xs = refl
length_streets (suc n) xs = ap suc (length_streets n (drop 3 xs))

-- how many streets the numbers have
pub size_in : (n : ℕ) (xs : List ℕ) → size (town_in n xs) ≡ length xs / 3
size_in n xs = length_streets (length xs / 3) xs

-- three numbers at a time
chunk_street : (xs : List ℕ) → street_of (take 3 xs) ≡ street_of xs
chunk_street xs = λ d. record { one = get_or-take 3 xs 0 0 (omega arith) d; two = get_or-take 3 xs 1 0 (omega arith) d; long = get_or-take 3 xs 2 0 (omega arith) d }

chunk_streets : (m : ℕ) (xs : List ℕ) → map street_of (first_chunks 3 m xs) ≡ streets_in m xs
unfolding streets_in
chunk_streets zero xs = refl
chunk_streets (suc m) xs = ap₂ (λ s ss. s ∷ ss) (chunk_street xs) (chunk_streets m (drop 3 xs))

pub street_chunk : (n : ℕ) (xs : List ℕ) (yss : List (List ℕ)) → yss ≡ first_chunks 3 (length xs / 3) xs → (k : ℕ) → street (town_in n xs) k ≡ street_of (get_or yss k [])
unfolding street
street_chunk n xs yss e k = ap (λ ss. get_or ss k no_street) (sym (chunk_streets (length xs / 3) xs) ∙ ap (map street_of) (sym e)) ∙ get_or-map street_of yss k []

-- streets that were read one by one are the streets of the numbers
pub streets_read : (n : ℕ) (xs : List ℕ) (ss : List Street) → length xs / 3 ≤ length ss → ((k : ℕ) → k < length xs / 3 → get_or ss k no_street ≡ street (town_in n xs) k) →
    take (length xs / 3) ss ≡ streets_in (length xs / 3) xs
unfolding street
streets_read n xs ss h same =
    let m = length xs / 3 in
    let e = length-take-le m ss h in
    let f = length_streets m xs in
    ext_get_or no_street (take m ss) (streets_in m xs) (omega arith) (λ k i. get_or-take m ss k no_street (omega arith) ∙ same k (omega arith))

-- and back
pub street_read : (n : ℕ) (xs : List ℕ) (ss : List Street) → take (length xs / 3) ss ≡ streets_in (length xs / 3) xs →
    (k : ℕ) → k < length xs / 3 → get_or ss k no_street ≡ street (town_in n xs) k
unfolding street
street_read n xs ss same k h = sym (get_or-take (length xs / 3) ss k no_street h) ∙ ap (λ z. get_or z k no_street) same

-- legs that were written as numbers are read back
leg_back : (l : Leg) → leg_in (leg_number l) ≡ l
leg_back l = ap₂ (λ (k : ℕ) (b : Bool). let m : Leg = record { by = k; back = b } in m) (half l.back) (rest l.back)
  where
    half : (b : Bool) → (2 * l.by + bit b) / 2 ≡ l.by
    half true = omega arith
    half false = omega arith

    rest : (b : Bool) → eqb ((2 * l.by + bit b) % 2) 1 ≡ b
    rest true = let e : (2 * l.by + 1) % 2 ≡ 1 = omega arith in ap (λ z. eqb z 1) e
    rest false = let e : (2 * l.by + 0) % 2 ≡ 0 = omega arith in ap (λ z. eqb z 1) e

pub legs_back : (ls : List Leg) → legs_in (map leg_number ls) ≡ ls
legs_back [] = refl
legs_back (l ∷ ls) = ap₂ (λ (l : Leg) (ls : List Leg). l ∷ ls) (leg_back l) (legs_back ls)
