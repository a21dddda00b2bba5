-- The worked towns, by one test that is computed over the table. Assumes nothing.
use Rattle.std.proofs.Common.{◌≡◌, ℕ, zero, suc, ◌<◌, Bool, true, false, ◌&&◌, eqb, List, [], ◌∷◌, length, get_or, sym, refl, ap, arith}
use Rattle.std.proofs.lemmas.Bool.{and_parts, eqb-true, both_ways}
use Rattle.road.specs.Roads.{street, from, into, times, far, all_streets}
use Rattle.road.specs.Numbers.{town_in, legs_in, streets_in}
use Rattle.road.specs.First.{first}
use Rattle.road.specs.Faults.{driven, end}
use Rattle.sheet.specs.declared.word.Word.{Word}
use Rattle.sheet.specs.declared.word.Word.TheVariants.{NoRound, NoSheet, Shortest, Apart}
use Rattle.sheet.specs.Sheet.{leads_out, ways_out, load, weights}
use Rattle.sheet.specs.Numbers.{parts_in, sheet_in}
use Rattle.sheet.specs.Words.{judged}
use Rattle.sheet.specs.Worked.{Worked, table, ring, Right, WorkedTowns}
use Rattle.sheet.proofs.Judged.{word_shortest}

-- whether a word is that a round of length n is a shortest one
is_shortest : ℕ → Word → Bool
is_shortest n (Shortest m) = eqb m n
is_shortest n (NoRound f) = false
is_shortest n (NoSheet f) = false
is_shortest n (Apart m b) = false

shortest_is : (n : ℕ) (w : Word) → is_shortest n w ≡ true → w ≡ Shortest n
unfolding is_shortest
shortest_is n (Shortest m) e = ap Shortest (eqb-true m n e)
shortest_is n (NoRound f) e = absurd (both_ways false refl e)
shortest_is n (NoSheet f) e = absurd (both_ways false refl e)
shortest_is n (Apart m b) e = absurd (both_ways false refl e)

judgement : Worked → Word
judgement e = judged (town_in e.crossings e.streets) 0 (legs_in e.legs) (sheet_in e.crossings e.parts)

test : List Worked → Bool
test [] = true
test (e ∷ es) = is_shortest e.long (judgement e) && test es

tested : test table ≡ true
unfolding test judgement is_shortest street from into times far all_streets streets_in first driven end leads_out ways_out load weights parts_in
tested = refl

right : (e : Worked) → is_shortest e.long (judgement e) ≡ true → Right e
unfolding judgement
right e h =
    let r = (word_shortest (town_in e.crossings e.streets) 0 (legs_in e.legs) (sheet_in e.crossings e.parts) e.long).0 (shortest_is e.long (judgement e) h) in
    record { round = r.0; length_is = sym r.3; sheet = r.1; agree = r.2 }

each : (es : List Worked) → test es ≡ true → (i : ℕ) → i < length es → Right (get_or es i ring)
unfolding test
each [] h i l = absurd (omega arith)
each (e ∷ es) h zero l = right e (and_parts (is_shortest e.long (judgement e)) (test es) h).0
each (e ∷ es) h (suc i) l = each es (and_parts (is_shortest e.long (judgement e)) (test es) h).1 i (omega arith)

pub worked_towns : WorkedTowns
worked_towns i h = each table tested i h
