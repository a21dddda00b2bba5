-- One more entry behind those that are gathered. Assumes nothing.
use Rattle.std.proofs.Common.{◌≡◌, ℕ, Bool, true, false, not, ◌&&◌, Option, Some, None, Result, Ok, List, [], ◌∷◌, ◌++◌, map, Vec, vec_items, sym, ap, ◌∙◌, refl}
use Rattle.std.specs.declared.alloc.Global.{Global}
use Rattle.std.specs.Option.{option_map, option_or, is_none}
use Rattle.std.specs.List.{filter_map, flat_map, cons_option}
use Rattle.std.proofs.lemmas.Bool.{false≢true, and_right}
use Rattle.std.proofs.lemmas.List.{append-nil, map_push}
use Rattle.std.proofs.lemmas.List.Elements.{filter_map-append}
use Rattle.std.proofs.lemmas.List.Concat.{flat_map-append}
use Rattle.road.specs.First.{unless, ◌then◌}
use Rattle.text.specs.declared.line_fault.LineFault.{LineFault}
use Rattle.text.specs.declared.line.LineError.{LineError}
use Rattle.text.specs.declared.line.PartLine.{PartLine}
use Rattle.text.specs.declared.line_fault.LineFault.TheVariants.{SecondCrossings, SecondDepot, SecondRound}
use Rattle.text.specs.declared.lines.Lines.{Lines}
use Rattle.text.specs.Entries.{Entry, Nothing, CrossingsAre, DepotIs, StreetIs, RoundIs, LengthIs, PartIs}
use Rattle.text.specs.Format.{head, crossings_in, depot_in, street_in, round_in, part_in, of_check, second, added}
use Rattle.text.specs.Lines.{part_entry}
use Rattle.text.specs.Gathered.{Sets, Gathered, Gathers}

head_more : {A : Type 0} (xs : List A) (o : Option A) → head (xs ++ cons_option o []) ≡ option_or (head xs) o
head_more [] None = refl
head_more [] (Some x) = refl
head_more (y ∷ ys) o = refl

first_more : {A : Type 0} (f : Entry → Option A) (es : List Entry) (e : Entry) → head (filter_map f (es ++ e ∷ [])) ≡ option_or (head (filter_map f es)) (f e)
first_more f es e = ap head (filter_map-append f es (e ∷ [])) ∙ head_more (filter_map f es) (f e)

-- what the code keeps once it took an entry
pub record Took (e : Entry) (l m : Lines) : Type 0 where
  alone_stays : m.alone ≡ l.alone
  crossings : m.crossings ≡ option_or l.crossings (crossings_in e)
  depot : m.depot ≡ option_or l.depot (depot_in e)
  streets : vec_items m.streets ≡ vec_items l.streets ++ street_in e
  round : option_map vec_items m.round ≡ option_or (option_map vec_items l.round) (round_in e)
  parts : map part_entry (vec_items m.parts) ≡ map part_entry (vec_items l.parts) ++ cons_option (part_in e) []

gathered_more : {alone : Bool} (es : List Entry) (l m : Lines) (e : Entry) → Gathered alone es l → Took e l m → Gathered alone (es ++ e ∷ []) m
gathered_more es l m e g t = record {
  alone_is = t.alone_stays ∙ g.alone_is;
  crossings_are = t.crossings ∙ ap (λ o. option_or o (crossings_in e)) g.crossings_are ∙ sym (first_more crossings_in es e);
  depot_is = t.depot ∙ ap (λ o. option_or o (depot_in e)) g.depot_is ∙ sym (first_more depot_in es e);
  streets_are = t.streets ∙ ap (λ z. z ++ street_in e) g.streets_are ∙ ap (λ z. flat_map street_in es ++ z) (sym (append-nil (street_in e))) ∙ sym (flat_map-append street_in es (e ∷ []));
  round_is = t.round ∙ ap (λ o. option_or o (round_in e)) g.round_is ∙ sym (first_more round_in es e);
  parts_are = t.parts ∙ ap (λ z. z ++ cons_option (part_in e) []) g.parts_are ∙ sym (filter_map-append part_in es (e ∷ []));
}

unless_kept : (kept : Bool) (f : LineFault) (o : Option LineFault) → kept ≡ true → (unless kept f then o) ≡ o
unless_kept true f o e = refl
unless_kept false f o e = absurd (false≢true e)

-- an entry that may stand and is no second one
pub gathers_more : {alone : Bool} (es : List Entry) (l m : Lines) (e : Entry) (r : Result (Unit {0}) LineError) → Gathered alone es l → not (alone && of_check e) ≡ true → second es e ≡ None → r ≡ Ok tt → Took e l m →
    Gathers alone (added alone es (Ok e)) m r
gathers_more es l m e r g t s k took = rw (unless_kept _ _ _ t, s, k) (gathered_more es l m e g took)

-- an entry of a kind of which a text has one
pub gathers_set : {A : Type 0} {alone : Bool} (es : List Entry) (l m : Lines) (e : Entry) (r : Result (Unit {0}) LineError) → Gathered alone es l → not (alone && of_check e) ≡ true →
    (old : Option A) (x : A) (f : LineFault) (new : Option A) → second es e ≡ unless (is_none old) f → Sets old x f new r → (old ≡ None → new ≡ Some x → Took e l m) → Gathers alone (added alone es (Ok e)) m r
gathers_set es l m e r g t None x f new s k took = gathers_more es l m e r g t s k.1 (took refl k.0)
gathers_set es l m e r g t (Some y) x f new s k took = rw (unless_kept _ _ _ t, s, k) refl

none_after : {A : Type 0} (o : Option A) → o ≡ option_or o None
none_after None = refl
none_after (Some x) = refl

-- no entry of another kind is misplaced where a town stands alone
not_of_check : (alone : Bool) → not (alone && false) ≡ true
not_of_check alone = ap not (and_right alone false refl)

-- each kind of entry
pub adds_nothing : {alone : Bool} (es : List Entry) (l : Lines) → Gathered alone es l → Gathers alone (added alone es (Ok Nothing)) l (Ok tt)
adds_nothing es l g = gathers_more es l l Nothing (Ok tt) g (not_of_check _) refl refl
    (record { alone_stays = refl; crossings = none_after _; depot = none_after _; streets = sym (append-nil _); round = none_after _; parts = sym (append-nil _) })

pub adds_length : {alone : Bool} (es : List Entry) (l : Lines) → Gathered alone es l → not (l.alone && true) ≡ true → Gathers alone (added alone es (Ok LengthIs)) l (Ok tt)
adds_length es l g t = gathers_more es l l LengthIs (Ok tt) g (ap (λ a. not (a && true)) (sym g.alone_is) ∙ t) refl refl
    (record { alone_stays = refl; crossings = none_after _; depot = none_after _; streets = sym (append-nil _); round = none_after _; parts = sym (append-nil _) })

pub adds_crossings : {alone : Bool} (es : List Entry) (l : Lines) (n : ℕ) (new : Option ℕ) (r : Result (Unit {0}) LineError) → Gathered alone es l → Sets l.crossings n SecondCrossings new r →
    Gathers alone (added alone es (Ok (CrossingsAre n))) (record l { crossings = new }) r
adds_crossings es l n new r g h = gathers_set es l (record l { crossings = new }) (CrossingsAre n) r g (not_of_check _) l.crossings n SecondCrossings new (ap (λ o. unless (is_none o) SecondCrossings) (sym g.crossings_are)) h
    (λ old e. record { alone_stays = refl; crossings = e ∙ ap (λ o. option_or o (Some n)) (sym old); depot = none_after _; streets = sym (append-nil _); round = none_after _; parts = sym (append-nil _) })

pub adds_depot : {alone : Bool} (es : List Entry) (l : Lines) (d : ℕ) (new : Option ℕ) (r : Result (Unit {0}) LineError) → Gathered alone es l → Sets l.depot d SecondDepot new r →
    Gathers alone (added alone es (Ok (DepotIs d))) (record l { depot = new }) r
adds_depot es l d new r g h = gathers_set es l (record l { depot = new }) (DepotIs d) r g (not_of_check _) l.depot d SecondDepot new (ap (λ o. unless (is_none o) SecondDepot) (sym g.depot_is)) h
    (λ old e. record { alone_stays = refl; crossings = none_after _; depot = e ∙ ap (λ o. option_or o (Some d)) (sym old); streets = sym (append-nil _); round = none_after _; parts = sym (append-nil _) })

pub adds_street : {alone : Bool} (es : List Entry) (l : Lines) (xs : List ℕ) (new : Vec ℕ Global) → Gathered alone es l → vec_items new ≡ vec_items l.streets ++ xs →
    Gathers alone (added alone es (Ok (StreetIs xs))) (record l { streets = new }) (Ok tt)
adds_street es l xs new g e = gathers_more es l (record l { streets = new }) (StreetIs xs) (Ok tt) g (not_of_check _) refl refl
    (record { alone_stays = refl; crossings = none_after _; depot = none_after _; streets = e; round = none_after _; parts = sym (append-nil _) })

pub adds_round : {alone : Bool} (es : List Entry) (l : Lines) (ls : Vec ℕ Global) (new : Option (Vec ℕ Global)) (r : Result (Unit {0}) LineError) → Gathered alone es l → not (l.alone && true) ≡ true → Sets l.round ls SecondRound new r →
    Gathers alone (added alone es (Ok (RoundIs (vec_items ls)))) (record l { round = new }) r
adds_round es l ls new r g t h = gathers_set es l (record l { round = new }) (RoundIs (vec_items ls)) r g (ap (λ a. not (a && true)) (sym g.alone_is) ∙ t) l.round ls SecondRound new (ap (λ o. unless (is_none o) SecondRound) (sym g.round_is) ∙ none_kept l.round) h
    (λ old e. record { alone_stays = refl; crossings = none_after _; depot = none_after _; streets = sym (append-nil _); round = ap (option_map vec_items) e ∙ ap (λ o. option_or (option_map vec_items o) (Some (vec_items ls))) (sym old); parts = sym (append-nil _) })
  where
    none_kept : (o : Option (Vec ℕ Global)) → unless (is_none (option_map vec_items o)) SecondRound ≡ unless (is_none o) SecondRound
    none_kept None = refl
    none_kept (Some v) = refl

pub adds_part : {alone : Bool} (es : List Entry) (l : Lines) (p : PartLine) (new : Vec PartLine Global) → Gathered alone es l → not (l.alone && true) ≡ true → vec_items new ≡ vec_items l.parts ++ p ∷ [] →
    Gathers alone (added alone es (Ok (PartIs (part_entry p)))) (record l { parts = new }) (Ok tt)
adds_part es l p new g t e = gathers_more es l (record l { parts = new }) (PartIs (part_entry p)) (Ok tt) g (ap (λ a. not (a && true)) (sym g.alone_is) ∙ t) refl refl
    (record { alone_stays = refl; crossings = none_after _; depot = none_after _; streets = sym (append-nil _); round = none_after _; parts = ap (map part_entry) e ∙ map_push part_entry (vec_items l.parts) p })
