-- A worksheet that can be ticked shows a sheet that agrees with the round. Assumes nothing.
use Rattle.std.proofs.Common.{◌≡◌, ℕ, zero, suc, ◌+◌, Bool, true, false, cond, List, [], ◌∷◌, ◌++◌, length, get_or, filter, map-id, zero-add, refl, sym, ap, ◌∙◌, length-append, add-one, arith}
use Rattle.std.proofs.lemmas.List.FromFn.{filter_of_map_range_with_len_more}
use Rattle.std.specs.List.{range_with_len}
use Rattle.road.specs.Roads.{Town, street}
use Rattle.road.specs.Counts.{bit, sum, size}
use Rattle.sheet.specs.Sheet.{Part, no_part, leads_out, ways_out}
use Rattle.sheet.specs.Shown.{Accepted}
use Rattle.sheet.proofs.Borders.{ways_out_sum}
use Rattle.sheet.proofs.Right.{accepted}
use Rattle.worksheet.specs.Worksheet.{passing, streets_out}
use Rattle.worksheet.specs.Laws.{TickedShortest}
use Rattle.worksheet.proofs.Sums.{load_is, weights_is, all_streets_is, far_is}

-- how many numbers pass a test
one_more : (b : Bool) (n : ℕ) (xs : List ℕ) → length (xs ++ cond b (n ∷ []) []) ≡ bit b + length xs
one_more true n xs = omega (arith, length-append xs (n ∷ []))
one_more false n xs = omega (arith, length-append {A = ℕ} xs [])

passing_count : (n : ℕ) (test : ℕ → Bool) → length (passing n test) ≡ sum n (λ k. bit (test k))
unfolding sum
passing_count zero test = refl
passing_count (suc n) test =
    let more = simp map-id at (filter_of_map_range_with_len_more test (λ k. k) 0 n n (zero-add n)) in
    ap (λ m. length (filter test (range_with_len 0 m))) (sym (add-one n)) ∙ ap length more ∙ one_more (test n) n (passing n test) ∙ ap (λ m. bit (test n) + m) (passing_count n test)

pub out_is : (t : Town) (p : Part) → length (streets_out t p) ≡ ways_out p.marks t.streets
out_is t p = passing_count (size t) (λ k. leads_out p.marks (street t k)) ∙ sym (ways_out_sum t p.marks)

pub ticked_shortest : TickedShortest
unfolding Accepted
ticked_shortest t depot ls ps round ticked = accepted t depot ps ls
    (record {
      odd = λ i h. rw (sym (out_is t (get_or ps i no_part))) (ticked.odd i h);
      bears = λ k h. rw (load_is ps (street t k)) (ticked.bears k h);
    })
    round (rw (far_is t ls, all_streets_is t, weights_is ps) ticked.equal)
