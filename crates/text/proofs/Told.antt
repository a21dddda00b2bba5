-- What a text tells is what its lines say, and it is at fault at the first line that is wrong. Assumes nothing.
use Rattle.std.proofs.Common.{◌≡◌, ℕ, ◌+◌, ◌<◌, ◌≤◌, ◌⊎◌, Bool, true, false, ltb, List, [], ◌∷◌, ◌++◌, length, get_or, take, Option, Some, None, Ok, Err, Result, sym, refl, ap, ap₂, ◌∙◌, subst, inl, inr, ⊎_elim, arith}
use Rattle.std.specs.List.{All, list_all, filter_map, flat_map}
use Rattle.std.proofs.lemmas.List.Elements.{All-nil, All-cons, All-head, All-tail, All-weaker}
use Rattle.std.proofs.lemmas.List.Sums.{AllPass-from_list_all, list_all-from_AllPass}
use Rattle.std.proofs.lemmas.Bool.{both_ways, false_from_ne_true, ltb-true, lt-ltb}
use Rattle.road.specs.First.{unless, ◌then◌}
use Rattle.road.proofs.First.{unless_none, then_some, then_none}
use Rattle.text.specs.declared.line_fault.LineFault.TheVariants.{PartCrossing}
use Rattle.text.specs.declared.text_error.TextError.{TextError}
use Rattle.text.specs.declared.text_error.TextError.TheVariants.{Line, NoCrossings, NoDepot, NoRound, Memory}
use Rattle.text.specs.Words.{lines_of}
use Rattle.text.specs.Entries.{PartEntry, Entry, entry}
use Rattle.text.specs.Format.{crossings_in, depot_in, street_in, round_in, part_in, entries, TownNumbers, RoundNumbers, part_numbers, part_fault, and_then, unless_wrong, town_from, round_from}
use Rattle.text.specs.Told.{Say, Stand, Wrong, FirstWrong, TellTown, TellRound, PastTown, AtLine, TownLacks, RoundLacks}
use Rattle.text.specs.Laws.{TownTold, RoundTold, TownFaulty, RoundFaulty}
use Rattle.text.proofs.Back.{town_by, round_by}
use Rattle.text.proofs.Standing.{say_each, each_say, stand_none, entries_read, entries_from, entries_broken, broken_entries}

-- the entries of a text, where it has some
pub record Told (alone : Bool) (lines : List (List (List ℕ))) (P : List Entry → Type 0) : Type 0 where
  pub es : List Entry
  pub say : Say lines es
  pub stand : Stand alone es
  pub tell : P es

told_with : (alone : Bool) (lines : List (List (List ℕ))) (P : List Entry → Type 0) (es : List Entry) → entries alone 1 [] lines ≡ Ok es → P es → Told alone lines P
told_with alone lines P es e p =
    let r = entries_read alone 1 [] es lines (stand_none alone) e in
    record { es = r.new; say = each_say lines r.new r.said; stand = subst (Stand alone) r.is r.stand; tell = subst P r.is p }

told_entries : (alone : Bool) (lines : List (List (List ℕ))) (es : List Entry) → Say lines es → Stand alone es → entries alone 1 [] lines ≡ Ok es
told_entries alone lines es y s = entries_from alone 1 [] es lines (say_each lines es y) s

-- results that go on
goes_on : {A B : Type 0} (on : A → Result B TextError) (r : Result A TextError) (b : B) → and_then on r ≡ Ok b → (a : A) × (r ≡ Ok a) × (on a ≡ Ok b)
goes_on on (Ok a) b e = (a, refl, e)
goes_on on (Err f) b e = cc

goes_wrong : {A B : Type 0} (on : A → Result B TextError) (r : Result A TextError) (w : TextError) → and_then on r ≡ Err w → (r ≡ Err w) ⊎ ((a : A) × (r ≡ Ok a) × (on a ≡ Err w))
goes_wrong on (Ok a) w e = inr (a, refl, e)
goes_wrong {A} on (Err f) w e = let q : f ≡ w = cc in inl (ap (λ x. let r : Result A TextError = Err x in r) q)

-- a town
town_is : (cs ds ss : List ℕ) (t : TownNumbers) → length cs ≤ 1 → length ds ≤ 1 → town_by cs ds ss ≡ Ok t → (cs ≡ t.crossings ∷ []) × (ds ≡ t.depot ∷ []) × (ss ≡ t.streets)
town_is [] ds ss t a b e = cc
town_is (c ∷ []) [] ss t a b e = cc
town_is (c ∷ []) (d ∷ []) ss t a b e =
    let u : TownNumbers = record { crossings = c; depot = d; streets = ss } in
    let q : u ≡ t = cc in
    (ap (λ (v : TownNumbers). v.crossings ∷ []) q, ap (λ (v : TownNumbers). v.depot ∷ []) q, ap (λ (v : TownNumbers). v.streets) q)
town_is (c ∷ []) (d ∷ x ∷ ds) ss t a b e = absurd (omega arith)
town_is (c ∷ x ∷ cs) ds ss t a b e = absurd (omega arith)

town_tells : (es : List Entry) (t : TownNumbers) (alone : Bool) → Stand alone es → town_from es ≡ Ok t → TellTown es t
town_tells es t alone s e =
    let r = town_is (filter_map crossings_in es) (filter_map depot_in es) (flat_map street_in es) t s.crossings s.depot e in
    record { crossings = r.0; depot = r.1; streets = r.2 }

tells_town : (es : List Entry) (t : TownNumbers) → TellTown es t → town_from es ≡ Ok t
tells_town es t h = ap₂ (λ xs ys. town_by xs ys (flat_map street_in es)) h.crossings h.depot ∙ ap (town_by (t.crossings ∷ []) (t.depot ∷ [])) h.streets

town_wrong : (cs ds ss : List ℕ) (e : TextError) (P : TextError → Type 0) → town_by cs ds ss ≡ Err e → (cs ≡ [] → P NoCrossings) → ((n : ℕ) → cs ≡ n ∷ [] → ds ≡ [] → P NoDepot) → length cs ≤ 1 → P e
town_wrong [] ds ss e P q a b l = let z : NoCrossings ≡ e = cc in subst P z (a refl)
town_wrong (c ∷ []) [] ss e P q a b l = let z : NoDepot ≡ e = cc in subst P z (b c refl refl)
town_wrong (c ∷ []) (d ∷ ds) ss e P q a b l = cc
town_wrong (c ∷ x ∷ cs) ds ss e P q a b l = absurd (omega arith)

town_lacks : (es : List Entry) (e : TextError) (alone : Bool) → Stand alone es → town_from es ≡ Err e → TownLacks es e
town_lacks es e alone s q = town_wrong (filter_map crossings_in es) (filter_map depot_in es) (flat_map street_in es) e (TownLacks es) q (λ p. p) (λ n p r. (n, p, r)) s.crossings

lacks_town : (es : List Entry) (e : TextError) → TownLacks es e → town_from es ≡ Err e
lacks_town es NoCrossings h = ap (λ xs. town_by xs (filter_map depot_in es) (flat_map street_in es)) h
lacks_town es NoDepot h = ap₂ (λ xs ys. town_by xs ys (flat_map street_in es)) h.1 h.2
lacks_town es NoRound h = absurd h
lacks_town es Memory h = absurd h
lacks_town es (Line i f) h = absurd h

pub town_told : TownTold
town_told text t = (
  λ e.
      let w = goes_on town_from (entries true 1 [] (lines_of text)) t e in
      let r = told_with true (lines_of text) (λ es. town_from es ≡ Ok t) w.0 w.1 w.2 in
      (r.es, r.say, r.stand, town_tells r.es t true r.stand r.tell),
  λ w. ap (and_then town_from) (told_entries true (lines_of text) w.0 w.1 w.2) ∙ tells_town w.0 t w.3,
)

-- parts
within_list : (n : ℕ) (vs : List ℕ) → list_all (λ v. ltb v n) vs ≡ true → All (λ v. v < n) vs
within_list n vs e = All-weaker (λ v. ltb v n ≡ true) (λ v. v < n) (λ v. ltb-true v n) vs (AllPass-from_list_all (λ v. ltb v n) vs e)

list_within : (n : ℕ) (vs : List ℕ) → All (λ v. v < n) vs → list_all (λ v. ltb v n) vs ≡ true
list_within n vs h = list_all-from_AllPass (λ v. ltb v n) vs (All-weaker (λ v. v < n) (λ v. ltb v n ≡ true) (λ v. lt-ltb v n) vs h)

abbrev Within : ℕ → PartEntry → Type 0
Within n p = All (λ v. v < n) p.crossings

parts_within : (n : ℕ) (ps : List PartEntry) → part_fault n ps ≡ None → All (Within n) ps
parts_within n [] e = All-nil (Within n)
parts_within n (p ∷ ps) e =
    let kept = list_all (λ v. ltb v n) p.crossings in
    let r = (then_none (unless kept (Line p.line PartCrossing)) (part_fault n ps)).0 e in
    All-cons (Within n) p ps (within_list n p.crossings ((unless_none kept (Line p.line PartCrossing)).0 r.0)) (parts_within n ps r.1)

within_parts : (n : ℕ) (ps : List PartEntry) → All (Within n) ps → part_fault n ps ≡ None
within_parts n [] h = refl
within_parts n (p ∷ ps) h =
    ap₂ (λ b (o : Option TextError). unless b (Line p.line PartCrossing) then o) (list_within n p.crossings (All-head (Within n) p ps h)) (within_parts n ps (All-tail (Within n) p ps h))

record Past (n : ℕ) (ps : List PartEntry) (w : TextError) : Type 0 where
  line : ℕ
  is : w ≡ Line line PartCrossing
  past : PastTown n ps line

parts_past : (n : ℕ) (ps : List PartEntry) (w : TextError) → part_fault n ps ≡ Some w → Past n ps w
parts_past n [] w e = cc
parts_past n (p ∷ ps) w e = ⊎_elim here (later (parts_past n ps w)) (then_some (list_all (λ v. ltb v n) p.crossings) (Line p.line PartCrossing) w (part_fault n ps) e)
  where
    here : (list_all (λ v. ltb v n) p.crossings ≡ false) × (Line p.line PartCrossing ≡ w) → Past n (p ∷ ps) w
    here h = record {
      line = p.line;
      is = sym h.1;
      past = record { front = []; part = p; rest = ps; is = refl; before = All-nil (Within n); past = λ a. both_ways (list_all (λ v. ltb v n) p.crossings) h.0 (list_within n p.crossings a); line = refl };
    }

    later : (part_fault n ps ≡ Some w → Past n ps w) → (list_all (λ v. ltb v n) p.crossings ≡ true) × (part_fault n ps ≡ Some w) → Past n (p ∷ ps) w
    later found h =
        let r = found h.1 in
        let q = r.past in
        record {
          line = r.line;
          is = r.is;
          past = record { front = p ∷ q.front; part = q.part; rest = q.rest; is = ap (λ qs. p ∷ qs) q.is; before = All-cons (Within n) p q.front (within_list n p.crossings h.0) q.before; past = q.past; line = q.line };
        }

past_front : (n : ℕ) (front rest : List PartEntry) (p : PartEntry) → All (Within n) front → (Within n p → ⊥) → part_fault n (front ++ p ∷ rest) ≡ Some (Line p.line PartCrossing)
past_front n [] rest p h out =
    let kept = list_all (λ v. ltb v n) p.crossings in
    ap (λ b. unless b (Line p.line PartCrossing) then part_fault n rest) (false_from_ne_true kept (λ e. out (within_list n p.crossings e)))
past_front n (q ∷ qs) rest p h out =
    ap₂ (λ b (o : Option TextError). unless b (Line q.line PartCrossing) then o) (list_within n q.crossings (All-head (Within n) q qs h)) (past_front n qs rest p (All-tail (Within n) q qs h) out)

past_parts : (n : ℕ) (ps : List PartEntry) (i : ℕ) → PastTown n ps i → part_fault n ps ≡ Some (Line i PartCrossing)
past_parts n ps i h = ap (part_fault n) h.is ∙ past_front n h.front h.rest h.part h.before h.past ∙ ap (λ j. Some (Line j PartCrossing)) h.line

-- a round
abbrev numbers_by : TownNumbers → List ℕ → List PartEntry → RoundNumbers
numbers_by t ls qs = record { town = t; legs = ls; parts = flat_map (part_numbers t.crossings) qs }

record RoundIs (t : TownNumbers) (rs : List (List ℕ)) (qs : List PartEntry) (r : RoundNumbers) : Type 0 where
  town : t ≡ r.town
  legs : rs ≡ r.legs ∷ []
  within : part_fault t.crossings qs ≡ None
  parts : flat_map (part_numbers t.crossings) qs ≡ r.parts

round_is : (t : TownNumbers) (rs : List (List ℕ)) (qs : List PartEntry) (r : RoundNumbers) → length rs ≤ 1 → round_by t rs qs ≡ Ok r → RoundIs t rs qs r
round_is t [] qs r l e = cc
round_is t (ls ∷ []) qs r l e = at (part_fault t.crossings qs) refl e
  where
    at : (o : Option TextError) → part_fault t.crossings qs ≡ o → unless_wrong o (numbers_by t ls qs) ≡ Ok r → RoundIs t (ls ∷ []) qs r
    at None q e =
        let z : numbers_by t ls qs ≡ r = cc in
        record { town = ap (λ (v : RoundNumbers). v.town) z; legs = ap (λ (v : RoundNumbers). v.legs ∷ []) z; within = q; parts = ap (λ (v : RoundNumbers). v.parts) z }
    at (Some w) q e = cc
round_is t (ls ∷ x ∷ rs) qs r l e = absurd (omega arith)

round_tells : (es : List Entry) (r : RoundNumbers) → Stand false es → round_from es ≡ Ok r → TellRound es r
round_tells es r s e =
    let w = goes_on (λ t. round_by t (filter_map round_in es) (filter_map part_in es)) (town_from es) r e in
    let q = round_is w.0 (filter_map round_in es) (filter_map part_in es) r s.round w.2 in
    record {
      town = town_tells es r.town false s (w.1 ∙ ap (λ (t : TownNumbers). let u : Result TownNumbers TextError = Ok t in u) q.town);
      round = q.legs;
      within = subst (λ (t : TownNumbers). All (Within t.crossings) (filter_map part_in es)) q.town (parts_within w.0.crossings (filter_map part_in es) q.within);
      parts = subst (λ (t : TownNumbers). flat_map (part_numbers t.crossings) (filter_map part_in es) ≡ r.parts) q.town q.parts;
    }

tells_round : (es : List Entry) (r : RoundNumbers) → TellRound es r → round_from es ≡ Ok r
tells_round es r h =
    let qs = filter_map part_in es in
    ap (and_then (λ t. round_by t (filter_map round_in es) qs)) (tells_town es r.town h.town)
    ∙ ap (λ rs. round_by r.town rs qs) h.round
    ∙ ap₂ (λ (o : Option TextError) (xs : List ℕ). unless_wrong o (let u : RoundNumbers = record { town = r.town; legs = r.legs; parts = xs } in u)) (within_parts r.town.crossings qs h.within) h.parts

pub round_told : RoundTold
round_told text r = (
  λ e.
      let w = goes_on round_from (entries false 1 [] (lines_of text)) r e in
      let q = told_with false (lines_of text) (λ es. round_from es ≡ Ok r) w.0 w.1 w.2 in
      (q.es, q.say, q.stand, round_tells q.es r q.stand q.tell),
  λ w. ap (and_then round_from) (told_entries false (lines_of text) w.0 w.1 w.2) ∙ tells_round w.0 r w.3,
)

-- faults
at_line : (alone : Bool) (lines : List (List (List ℕ))) (e : TextError) → entries alone 1 [] lines ≡ Err e → AtLine alone lines e
at_line alone lines e q =
    let b = entries_broken alone 1 [] lines e (stand_none alone) q in
    let w : FirstWrong alone lines (1 + b.place) b.fault = (b.place, b.new, refl, b.within, each_say (take b.place lines) b.new b.said, b.stand, b.wrong) in
    subst (AtLine alone lines) (sym b.is) w

line_at : (alone : Bool) (lines : List (List (List ℕ))) (e : TextError) → AtLine alone lines e → entries alone 1 [] lines ≡ Err e
line_at alone lines (Line i f) h = broken_entries alone 1 [] lines (Line i f) (record {
  place = h.0;
  new = h.1;
  fault = f;
  is = ap (λ j. Line j f) h.2;
  within = h.3;
  said = say_each (take h.0 lines) h.1 h.4;
  stand = h.5;
  wrong = subst (λ j. Wrong alone h.1 (entry j (get_or lines h.0 [])) f) h.2 h.6;
})
line_at alone lines NoCrossings h = absurd h
line_at alone lines NoDepot h = absurd h
line_at alone lines NoRound h = absurd h
line_at alone lines Memory h = absurd h

told_wrong : {B : Type 0} (alone : Bool) (lines : List (List (List ℕ))) (on : List Entry → Result B TextError) (e : TextError) → and_then on (entries alone 1 [] lines) ≡ Err e →
    AtLine alone lines e ⊎ Told alone lines (λ es. on es ≡ Err e)
told_wrong alone lines on e q =
    ⊎_elim (λ b. inl (at_line alone lines e b)) (λ w. inr (told_with alone lines (λ es. on es ≡ Err e) w.0 w.1 w.2)) (goes_wrong on (entries alone 1 [] lines) e q)

pub town_faulty : TownFaulty
town_faulty text e = (
  λ q. ⊎_elim (λ b. inl b) (λ w. inr (w.es, w.say, w.stand, town_lacks w.es e true w.stand w.tell)) (told_wrong true lines town_from e q),
  λ h. ⊎_elim (λ b. ap (and_then town_from) (line_at true lines e b)) (λ w. ap (and_then town_from) (told_entries true lines w.0 w.1 w.2) ∙ lacks_town w.0 e w.3) h,
)
  where
    lines : List (List (List ℕ))
    lines = lines_of text

round_wrong : (t : TownNumbers) (rs : List (List ℕ)) (qs : List PartEntry) (e : TextError) (P : TextError → Type 0) → round_by t rs qs ≡ Err e → (rs ≡ [] → P NoRound) →
    ((i : ℕ) (ls : List ℕ) → rs ≡ ls ∷ [] → PastTown t.crossings qs i → P (Line i PartCrossing)) → length rs ≤ 1 → P e
round_wrong t [] qs e P q a b l = let z : NoRound ≡ e = cc in subst P z (a refl)
round_wrong t (ls ∷ []) qs e P q a b l = at (part_fault t.crossings qs) refl q
  where
    at : (o : Option TextError) → part_fault t.crossings qs ≡ o → unless_wrong o (numbers_by t ls qs) ≡ Err e → P e
    at None p q = cc
    at (Some w) p q =
        let r = parts_past t.crossings qs w p in
        let is = r.is in
        let z : Line r.line PartCrossing ≡ e = cc in
        subst P z (b r.line ls refl r.past)
round_wrong t (ls ∷ x ∷ rs) qs e P q a b l = absurd (omega arith)

abbrev SheetLacks : List Entry → TextError → Type 0
SheetLacks es e = TownLacks es e ⊎ ((t : TownNumbers) × TellTown es t × RoundLacks t es e)

sheet_lacks : (es : List Entry) (e : TextError) → Stand false es → round_from es ≡ Err e → SheetLacks es e
sheet_lacks es e s q =
    let rs = filter_map round_in es in
    let qs = filter_map part_in es in
    ⊎_elim (λ b. inl (town_lacks es e false s b))
    (λ w. inr (w.0, town_tells es w.0 false s w.1, round_wrong w.0 rs qs e (RoundLacks w.0 es) w.2 (λ p. p) (λ i ls p r. (ls, p, r, refl)) s.round))
    (goes_wrong (λ t. round_by t rs qs) (town_from es) e q)

lacks_round : (es : List Entry) (t : TownNumbers) (e : TextError) → RoundLacks t es e → round_by t (filter_map round_in es) (filter_map part_in es) ≡ Err e
lacks_round es t NoRound h = ap (λ rs. round_by t rs (filter_map part_in es)) h
lacks_round es t (Line i f) h =
    let qs = filter_map part_in es in
    ap (λ rs. round_by t rs qs) h.1
    ∙ ap (λ o. unless_wrong o (numbers_by t h.0 qs)) (past_parts t.crossings qs i h.2)
    ∙ ap (λ g. let r : Result RoundNumbers TextError = Err (Line i g) in r) (sym h.3)
lacks_round es t NoCrossings h = absurd h
lacks_round es t NoDepot h = absurd h
lacks_round es t Memory h = absurd h

lacks_sheet : (es : List Entry) (e : TextError) → SheetLacks es e → round_from es ≡ Err e
lacks_sheet es e h =
    let on : TownNumbers → Result RoundNumbers TextError = λ t. round_by t (filter_map round_in es) (filter_map part_in es) in
    ⊎_elim (λ b. ap (and_then on) (lacks_town es e b)) (λ w. ap (and_then on) (tells_town es w.0 w.1) ∙ lacks_round es w.0 e w.2) h

pub round_faulty : RoundFaulty
round_faulty text e = (
  λ q. ⊎_elim (λ b. inl b) (λ w. inr (w.es, w.say, w.stand, sheet_lacks w.es e w.stand w.tell)) (told_wrong false lines round_from e q),
  λ h. ⊎_elim (λ b. ap (and_then round_from) (line_at false lines e b)) (λ w. ap (and_then round_from) (told_entries false lines w.0 w.1 w.2) ∙ lacks_sheet w.0 e w.3) h,
)
  where
    lines : List (List (List ℕ))
    lines = lines_of text
