-- Lines are read just if each says something that may stand there. Assumes nothing.
use Rattle.std.proofs.Common.{◌≡◌, ℕ, zero, suc, ◌+◌, ◌<◌, ◌≤◌, Bool, true, false, not, ◌&&◌, List, [], ◌∷◌, ◌++◌, length, get_or, take, drop, Option, Some, None, Ok, Err, Result, is_none, sym, refl, ap, ◌∙◌, subst, append_assoc, append-nil, take-append-drop, drop-cons, length-append, length-take-le, arith}
use Rattle.std.specs.List.{cons_option, filter_map, All}
use Rattle.std.proofs.lemmas.List.{get_or_at, nil_from_length}
use Rattle.std.proofs.lemmas.List.Elements.{filter_map-append, All-nil, All-head, All-tail, All-push}
use Rattle.std.proofs.lemmas.Bool.{both_ways}
use Rattle.road.specs.First.{unless}
use Rattle.road.proofs.First.{then_none}
use Rattle.text.specs.declared.line_fault.LineFault.{LineFault}
use Rattle.text.specs.declared.line_fault.LineFault.TheVariants.{SecondCrossings, SecondDepot, SecondRound, OfCheck}
use Rattle.text.specs.declared.text_error.TextError.{TextError}
use Rattle.text.specs.declared.text_error.TextError.TheVariants.{Line}
use Rattle.text.specs.Entries.{Entry, Nothing, CrossingsAre, DepotIs, StreetIs, RoundIs, LengthIs, PartIs, entry}
use Rattle.text.specs.Format.{head, crossings_in, depot_in, round_in, second, misplaced, placed, added, behind, entries, and_then, of_check, part_in}
use Rattle.text.specs.Told.{Say, Stand, Wrong}
use Rattle.text.proofs.Behind.{entries_append, next_line}

-- what lines from line i on say
abbrev pub Each : ℕ → List (List (List ℕ)) → List Entry → Type 0
Each i [] [] = Unit {0}
Each i [] (x ∷ xs) = ⊥
Each i (ws ∷ more) [] = ⊥
Each i (ws ∷ more) (x ∷ xs) = (entry i ws ≡ Ok x) × Each (suc i) more xs

each_count : (i : ℕ) (lines : List (List (List ℕ))) (es : List Entry) → Each i lines es → length es ≡ length lines
each_count i [] [] h = refl
each_count i [] (x ∷ xs) h = absurd h
each_count i (ws ∷ more) [] h = absurd h
each_count i (ws ∷ more) (x ∷ xs) h = ap suc (each_count (suc i) more xs h.1)

each_at : (i : ℕ) (lines : List (List (List ℕ))) (es : List Entry) → Each i lines es → (k : ℕ) → k < length lines → entry (i + k) (get_or lines k []) ≡ Ok (get_or es k Nothing)
each_at i [] es h k l = absurd (omega arith)
each_at i (ws ∷ more) [] h k l = absurd h
each_at i (ws ∷ more) (x ∷ xs) h zero l = let e : i + 0 ≡ i = omega arith in ap (λ j. entry j ws) e ∙ h.0
each_at i (ws ∷ more) (x ∷ xs) h (suc k) l = let e : i + suc k ≡ suc i + k = omega arith in ap (λ j. entry j (get_or more k [])) e ∙ each_at (suc i) more xs h.1 k (omega arith)

each_from : (i : ℕ) (lines : List (List (List ℕ))) (es : List Entry) → length es ≡ length lines → ((k : ℕ) → k < length lines → entry (i + k) (get_or lines k []) ≡ Ok (get_or es k Nothing)) → Each i lines es
each_from i [] [] c h = tt
each_from i [] (x ∷ xs) c h = absurd (omega arith)
each_from i (ws ∷ more) [] c h = absurd (omega arith)
each_from i (ws ∷ more) (x ∷ xs) c h = (
  let e : i ≡ i + 0 = omega arith in ap (λ j. entry j ws) e ∙ h 0 (omega arith),
  each_from (suc i) more xs (omega arith) (λ k l. let e : suc i + k ≡ i + suc k = omega arith in ap (λ j. entry j (get_or more k [])) e ∙ h (suc k) (omega arith)),
)

pub say_each : (lines : List (List (List ℕ))) (es : List Entry) → Say lines es → Each 1 lines es
say_each lines es s = each_from 1 lines es s.count s.each

pub each_say : (lines : List (List (List ℕ))) (es : List Entry) → Each 1 lines es → Say lines es
each_say lines es h = record { count = each_count 1 lines es h; each = each_at 1 lines es h }

-- an entry that is not misplaced
none_yet : {A : Type 0} (xs : List A) (f : LineFault) → unless (is_none (head xs)) f ≡ None → length xs ≡ 0
none_yet [] f e = refl
none_yet (x ∷ xs) f e = cc

-- one of a round or a sheet does not stand alone
not_alone : (alone check : Bool) (f : LineFault) → unless (not (alone && check)) f ≡ None → alone ≡ true → check ≡ false
not_alone true true f e h = cc
not_alone true false f e h = refl
not_alone false check f e h = absurd (both_ways false refl h)

with_check : (alone check : Bool) (f : LineFault) → (check ≡ true → alone ≡ false) → unless (not (alone && check)) f ≡ None
with_check true true f h = absurd (both_ways true (h refl) refl)
with_check true false f h = refl
with_check false check f h = refl

more_of : {A : Type 0} (h : Entry → Option A) (es : List Entry) (x : Entry) → length (filter_map h (es ++ x ∷ [])) ≡ length (filter_map h es) + length (cons_option (h x) [])
more_of h es x = ap length (filter_map-append h es (x ∷ [])) ∙ length-append (filter_map h es) (cons_option (h x) [])

module _ (alone : Bool) (es : List Entry) (s : Stand alone es) where
  stand_with : (x : Entry) → length (filter_map crossings_in es) + length (cons_option (crossings_in x) []) ≤ 1 → length (filter_map depot_in es) + length (cons_option (depot_in x) []) ≤ 1 →
      length (filter_map round_in es) + length (cons_option (round_in x) []) ≤ 1 → (alone ≡ true → of_check x ≡ false) → Stand alone (es ++ x ∷ [])
  stand_with x c d r a = record {
    crossings = omega (arith, more_of crossings_in es x);
    depot = omega (arith, more_of depot_in es x);
    round = omega (arith, more_of round_in es x);
    town = λ t. All-push (λ e. of_check e ≡ false) es x (s.town t) (a t);
  }

  stand_more : (x : Entry) → misplaced alone es x ≡ None → Stand alone (es ++ x ∷ [])
  stand_more x e =
      let parts = (then_none (unless (not (alone && of_check x)) OfCheck) (second es x)).0 e in
      at x parts.1 (not_alone alone (of_check x) OfCheck parts.0)
    where
      c : length (filter_map crossings_in es) + 0 ≤ 1
      c = omega (arith, s.crossings)

      d : length (filter_map depot_in es) + 0 ≤ 1
      d = omega (arith, s.depot)

      r : length (filter_map round_in es) + 0 ≤ 1
      r = omega (arith, s.round)

      at : (x : Entry) → second es x ≡ None → (alone ≡ true → of_check x ≡ false) → Stand alone (es ++ x ∷ [])
      at Nothing e a = stand_with Nothing c d r a
      at (CrossingsAre n) e a = stand_with (CrossingsAre n) (omega (arith, none_yet (filter_map crossings_in es) SecondCrossings e)) d r a
      at (DepotIs n) e a = stand_with (DepotIs n) c (omega (arith, none_yet (filter_map depot_in es) SecondDepot e)) r a
      at (StreetIs xs) e a = stand_with (StreetIs xs) c d r a
      at (RoundIs ls) e a = stand_with (RoundIs ls) c d (omega (arith, none_yet (filter_map round_in es) SecondRound e)) a
      at LengthIs e a = stand_with LengthIs c d r a
      at (PartIs p) e a = stand_with (PartIs p) c d r a

first_of_kind : {A : Type 0} (h : Entry → Option A) (es zs : List Entry) (x : Entry) (a : A) (f : LineFault) → h x ≡ Some a → length (filter_map h (es ++ x ∷ zs)) ≤ 1 → unless (is_none (head (filter_map h es))) f ≡ None
first_of_kind {A} h es zs x a f e l =
    let some : length (cons_option (h x) (filter_map h zs)) ≡ suc (length (filter_map h zs)) = ap (λ (o : Option A). length (cons_option o (filter_map h zs))) e in
    let both : length (filter_map h (es ++ x ∷ zs)) ≡ length (filter_map h es) + length (cons_option (h x) (filter_map h zs)) = ap length (filter_map-append h es (x ∷ zs)) ∙ length-append (filter_map h es) (cons_option (h x) (filter_map h zs)) in
    ap (λ xs. unless (is_none (head xs)) f) (nil_from_length (filter_map h es) (omega arith))

module _ (alone : Bool) (es zs : List Entry) where
  no_check : (x : Entry) → of_check x ≡ true → Stand alone (es ++ x ∷ zs) → alone ≡ false
  no_check x c s = at alone (λ t. s.town t (length es) Nothing (omega (arith, length-append es (x ∷ zs))))
    where
      at : (b : Bool) → (b ≡ true → of_check (get_or (es ++ x ∷ zs) (length es) Nothing) ≡ false) → b ≡ false
      at true f = absurd (both_ways (of_check x) (sym (ap of_check (get_or_at es x zs Nothing (length es) refl)) ∙ f refl) c)
      at false f = refl

  stands_there : (x : Entry) → Stand alone (es ++ x ∷ zs) → misplaced alone es x ≡ None
  stands_there x s = (then_none (unless (not (alone && of_check x)) OfCheck) (second es x)).1 (with_check alone (of_check x) OfCheck (λ c. no_check x c s), at x s)
    where
      at : (x : Entry) → Stand alone (es ++ x ∷ zs) → second es x ≡ None
      at Nothing s = refl
      at (CrossingsAre n) s = first_of_kind crossings_in es zs (CrossingsAre n) n SecondCrossings refl s.crossings
      at (DepotIs d) s = first_of_kind depot_in es zs (DepotIs d) d SecondDepot refl s.depot
      at (StreetIs xs) s = refl
      at (RoundIs ls) s = first_of_kind round_in es zs (RoundIs ls) ls SecondRound refl s.round
      at LengthIs s = refl
      at (PartIs p) s = refl

pub stand_none : (alone : Bool) → Stand alone []
stand_none alone = record { crossings = omega arith; depot = omega arith; round = omega arith; town = λ t. All-nil (λ e. of_check e ≡ false) }

-- lines that are read say their entries
pub record Read (alone : Bool) (i : ℕ) (before es : List Entry) (lines : List (List (List ℕ))) : Type 0 where
  pub new : List Entry
  pub is : es ≡ before ++ new
  pub said : Each i lines new
  pub stand : Stand alone es

pub entries_read : (alone : Bool) (i : ℕ) (before es : List Entry) (lines : List (List (List ℕ))) → Stand alone before → entries alone i before lines ≡ Ok es → Read alone i before es lines
unfolding entries
entries_read alone i before es [] s e =
    let b : before ≡ es = cc in
    record { new = []; is = sym b ∙ sym (append-nil before); said = tt; stand = subst (Stand alone) b s }
entries_read alone i before es (ws ∷ more) s e = at (entry i ws) refl (λ bs. entries_read alone (suc i) bs es more) e
  where
    Later : Type 0
    Later = (bs : List Entry) → Stand alone bs → entries alone (suc i) bs more ≡ Ok es → Read alone (suc i) bs es more

    place : (x : Entry) (o : Option LineFault) → entry i ws ≡ Ok x → misplaced alone before x ≡ o → Later → behind i (λ bs. entries alone (suc i) bs more) (placed o before x) ≡ Ok es → Read alone i before es (ws ∷ more)
    place x (Some f) q p later = λ e. cc
    place x None q p later = λ e.
        let r = later (before ++ x ∷ []) (stand_more alone before s x p) e in
        record { new = x ∷ r.new; is = r.is ∙ append_assoc before (x ∷ []) r.new; said = (q, r.said); stand = r.stand }

    at : (r : Result Entry LineFault) → entry i ws ≡ r → Later → behind i (λ bs. entries alone (suc i) bs more) (added alone before r) ≡ Ok es → Read alone i before es (ws ∷ more)
    at (Err f) q later = λ e. cc
    at (Ok x) q later = place x (misplaced alone before x) q refl later

-- and back
pub entries_from : (alone : Bool) (i : ℕ) (before new : List Entry) (lines : List (List (List ℕ))) → Each i lines new → Stand alone (before ++ new) → entries alone i before lines ≡ Ok (before ++ new)
unfolding entries
entries_from alone i before [] [] h s = ap Ok (sym (append-nil before))
entries_from alone i before (x ∷ xs) [] h s = absurd h
entries_from alone i before [] (ws ∷ more) h s = absurd h
entries_from alone i before (x ∷ xs) (ws ∷ more) h s =
    next_line alone i before ws x more h.0 (stands_there alone before xs x s)
    ∙ entries_from alone (suc i) (before ++ x ∷ []) xs more h.1 (subst (Stand alone) (sym (append_assoc before (x ∷ []) xs)) s)
    ∙ ap Ok (append_assoc before (x ∷ []) xs)

-- lines of which one is wrong
pub record Broken (alone : Bool) (i : ℕ) (before : List Entry) (lines : List (List (List ℕ))) (e : TextError) : Type 0 where
  pub place : ℕ
  pub new : List Entry
  pub fault : LineFault
  pub is : e ≡ Line (i + place) fault
  pub within : place < length lines
  pub said : Each i (take place lines) new
  pub stand : Stand alone (before ++ new)
  pub wrong : Wrong alone (before ++ new) (entry (i + place) (get_or lines place [])) fault

pub entries_broken : (alone : Bool) (i : ℕ) (before : List Entry) (lines : List (List (List ℕ))) (e : TextError) → Stand alone before → entries alone i before lines ≡ Err e → Broken alone i before lines e
unfolding entries
entries_broken alone i before [] e s q = cc
entries_broken alone i before (ws ∷ more) e s q = at (entry i ws) refl (λ bs. entries_broken alone (suc i) bs more e) q
  where
    Later : Type 0
    Later = (bs : List Entry) → Stand alone bs → entries alone (suc i) bs more ≡ Err e → Broken alone (suc i) bs more e

    here : (f : LineFault) → Wrong alone before (entry i ws) f → e ≡ Line i f → Broken alone i before (ws ∷ more) e
    here f w q =
        let n : i ≡ i + 0 = omega arith in
        record {
          place = 0;
          new = [];
          fault = f;
          is = q ∙ ap (λ j. Line j f) n;
          within = omega arith;
          said = tt;
          stand = subst (Stand alone) (sym (append-nil before)) s;
          wrong = subst (λ bs. Wrong alone bs (entry (i + 0) ws) f) (sym (append-nil before)) (subst (λ j. Wrong alone before (entry j ws) f) n w);
        }

    place_at : (x : Entry) (o : Option LineFault) → entry i ws ≡ Ok x → misplaced alone before x ≡ o → Later → behind i (λ bs. entries alone (suc i) bs more) (placed o before x) ≡ Err e → Broken alone i before (ws ∷ more) e
    place_at x (Some f) q p later = λ z. here f (subst (λ r. Wrong alone before r f) (sym q) p) cc
    place_at x None q p later = λ z.
        let r = later (before ++ x ∷ []) (stand_more alone before s x p) z in
        let n : suc i + r.place ≡ i + suc r.place = omega arith in
        let a = append_assoc before (x ∷ []) r.new in
        record {
          place = suc r.place;
          new = x ∷ r.new;
          fault = r.fault;
          is = r.is ∙ ap (λ j. Line j r.fault) n;
          within = omega (arith, r.within);
          said = (q, r.said);
          stand = subst (Stand alone) a r.stand;
          wrong = subst (λ bs. Wrong alone bs (entry (i + suc r.place) (get_or more r.place [])) r.fault) a
              (subst (λ j. Wrong alone ((before ++ x ∷ []) ++ r.new) (entry j (get_or more r.place [])) r.fault) n r.wrong);
        }

    at : (r : Result Entry LineFault) → entry i ws ≡ r → Later → behind i (λ bs. entries alone (suc i) bs more) (added alone before r) ≡ Err e → Broken alone i before (ws ∷ more) e
    at (Err f) q later = λ z. here f (subst (λ r. Wrong alone before r f) (sym q) refl) cc
    at (Ok x) q later = place_at x (misplaced alone before x) q refl later

wrong_line : (alone : Bool) (i : ℕ) (es : List Entry) (ws : List (List ℕ)) (more : List (List (List ℕ))) (f : LineFault) → Wrong alone es (entry i ws) f → entries alone i es (ws ∷ more) ≡ Err (Line i f)
unfolding entries
wrong_line alone i es ws more f = at (entry i ws)
  where
    at : (r : Result Entry LineFault) → Wrong alone es r f → behind i (λ bs. entries alone (suc i) bs more) (added alone es r) ≡ Err (Line i f)
    at (Err g) w = ap (λ h. Err (Line i h)) w
    at (Ok x) w = ap (λ o. behind i (λ bs. entries alone (suc i) bs more) (placed o es x)) w

pub broken_entries : (alone : Bool) (i : ℕ) (before : List Entry) (lines : List (List (List ℕ))) (e : TextError) → Broken alone i before lines e → entries alone i before lines ≡ Err e
broken_entries alone i before lines e b =
    let k = b.place in
    let front = take k lines in
    let ws = get_or lines k [] in
    let rest = drop (suc k) lines in
    let apart : lines ≡ front ++ ws ∷ rest = sym (take-append-drop k lines) ∙ ap (λ ls. front ++ ls) (drop-cons lines k [] b.within) in
    let many : i + length front ≡ i + k = ap (λ n. i + n) (length-take-le k lines (omega (arith, b.within))) in
    ap (entries alone i before) apart ∙ entries_append alone i before front (ws ∷ rest)
    ∙ ap (and_then (λ es. entries alone (i + length front) es (ws ∷ rest))) (entries_from alone i before b.new front b.said b.stand)
    ∙ ap (λ j. entries alone j (before ++ b.new) (ws ∷ rest)) many
    ∙ wrong_line alone (i + k) (before ++ b.new) ws rest b.fault b.wrong
    ∙ ap Err (sym b.is)

-- entries with no round and no part
pub record OfTown (es : List Entry) : Type 0 where
  pub no_round : filter_map round_in es ≡ []
  pub no_part : filter_map part_in es ≡ []

of_town : (es : List Entry) → All (λ e. of_check e ≡ false) es → OfTown es
of_town [] h = record { no_round = refl; no_part = refl }
of_town (x ∷ xs) h = at x (All-head (λ e. of_check e ≡ false) x xs h) (of_town xs (All-tail (λ e. of_check e ≡ false) x xs h))
  where
    at : (y : Entry) → of_check y ≡ false → OfTown xs → OfTown (y ∷ xs)
    at Nothing e r = record { no_round = r.no_round; no_part = r.no_part }
    at (CrossingsAre n) e r = record { no_round = r.no_round; no_part = r.no_part }
    at (DepotIs d) e r = record { no_round = r.no_round; no_part = r.no_part }
    at (StreetIs ys) e r = record { no_round = r.no_round; no_part = r.no_part }
    at (RoundIs ls) e r = cc
    at LengthIs e r = cc
    at (PartIs p) e r = cc

-- lines that may stand where a town stands alone have the same entries where a round may follow
pub alone_same : (es : List Entry) (lines : List (List (List ℕ))) → entries true 1 [] lines ≡ Ok es → (entries false 1 [] lines ≡ Ok es) × OfTown es
alone_same es lines e =
    let r = entries_read true 1 [] es lines (stand_none true) e in
    let s = subst (Stand true) r.is r.stand in
    let t : Stand false r.new = record { crossings = s.crossings; depot = s.depot; round = s.round; town = λ z. absurd (both_ways false refl z) } in
    (entries_from false 1 [] r.new lines r.said t ∙ ap Ok (sym r.is), of_town es (r.stand.town refl))
