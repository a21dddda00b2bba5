-- The lines of a text, one by one. Assumes nothing.
use Rattle.std.proofs.Common.{◌≡◌, ℕ, ◌+◌, ◌<◌, Bool, true, Result, Ok, Err, List, length, get_or, drop, sym, ap, ap₂, subst, ◌∙◌, arith}
use Rattle.std.specs.List.{slice_split, before_first, enumerate_from}
use Rattle.std.specs.Str.Iter.{split_text, split_has_more, split_pattern, split_steps}
use Rattle.std.specs.Str.Pattern.{FindsChar}
use Rattle.std.specs.Iterator.Adapters.{enumerate_source, enumerate_count, enumerate_steps}
use Rattle.std.proofs.lemmas.Iterator.{YieldsList}
use Rattle.std.proofs.lemmas.Iterator.Splits.{YieldsList-from_str_split}
use Rattle.std.proofs.lemmas.Iterator.Consumers.{YieldsList-from_enumerate}
use Rattle.std.specs.Char.{is_newline}
use Rattle.std.proofs.lemmas.List.{at_drop_more, at_drop_all, get_or-map, length-map}
use Rattle.std.proofs.lemmas.List.FromFn.{length-enumerate_from, get_or-enumerate_from}
use Rattle.text.specs.declared.line_fault.LineFault.{LineFault}
use Rattle.text.specs.declared.text_error.TextError.{TextError}
use Rattle.text.specs.declared.text_error.TextError.TheVariants.{Line, Memory as MemoryOfText}
use Rattle.text.specs.declared.line.LineError.{LineError}
use Rattle.text.specs.declared.line.LineError.TheVariants.{Fault, Memory}
use Rattle.text.specs.declared.lines.Lines.{Lines}
use Rattle.text.specs.Words.{words, is_hash, lines_of}
use Rattle.text.specs.Entries.{Entry, entry}
use Rattle.text.specs.Format.{entries, added, behind, and_then, Tells}
use Rattle.text.specs.Lines.{result_at}
use Rattle.text.specs.Gathered.{Gathered, Gathers, GathersAll}

-- the lines, numbered from 0
pub lines_yielded : {s : _} (text : List ℕ) → split_text {P = ℕ} (enumerate_source s) ≡ text → split_has_more (enumerate_source s) ≡ true → split_pattern (enumerate_source s) ≡ 10 → enumerate_count s ≡ 0 →
    YieldsList (enumerate_steps (split_steps FindsChar (λ a b. b ≡ a))) (λ p. (p.0, p.1.now)) s (enumerate_from 0 (slice_split is_newline text))
lines_yielded text t m p n = YieldsList-from_enumerate (YieldsList-from_str_split 10 text (omega arith) t m p) n

-- what the entries before a line and the lines from it on tell, where x is the text of the line
pub from_line : (alone : Bool) (es : List Entry) (text : List ℕ) (k n i : ℕ) (x : List ℕ) (told : Result (List Entry) TextError) → n ≡ k + 1 →
    (k < length (enumerate_from 0 (slice_split is_newline text))) × ((i, x) ≡ get_or (enumerate_from 0 (slice_split is_newline text)) k (i, x)) → entries alone (k + 1) es (drop k (lines_of text)) ≡ told →
    behind (i + 1) (λ fs. entries alone (n + 1) fs (drop n (lines_of text))) (added alone es (entry (i + 1) (words (before_first is_hash x)))) ≡ told
unfolding entries
from_line alone es text k n i x told more at e =
    let parts = slice_split is_newline text in
    let below : k < length parts = omega (arith, length-enumerate_from 0 parts, at.0) in
    let p = at.1 ∙ get_or-enumerate_from 0 parts k (i, x) below in
    let number : i ≡ k = omega (arith, ap (λ q. q.0) p) in
    let line : List ℕ → List (List ℕ) = λ y. words (before_first is_hash y) in
    let here : line x ≡ get_or (lines_of text) k (line x) = ap (λ q. line q.1) p ∙ sym (get_or-map line parts k x (line x) below) in
    ap₂ (λ j ws. behind (j + 1) (λ fs. entries alone (n + 1) fs (drop n (lines_of text))) (added alone es (entry (j + 1) ws))) number here
    ∙ ap₂ (λ j z. behind (k + 1) (λ fs. entries alone j fs (drop z (lines_of text))) (added alone es (entry (k + 1) (get_or (lines_of text) k (line x))))) (omega arith) more
    ∙ sym (at_drop_more (entries alone (k + 1) es) (lines_of text) k (line x) (omega (arith, length-map parts line)))
    ∙ e

-- a line that is added
pub next_line : (alone : Bool) (m : Lines) (line : ℕ) (on : List Entry → Result (List Entry) TextError) (told : Result (List Entry) TextError) (a : Result (List Entry) LineFault) (r : Result (Unit {0}) LineError) → Gathers alone a m r → behind line on a ≡ told →
    result_at line r ≡ Ok tt → (fs : List Entry) × Gathered alone fs m × (on fs ≡ told)
next_line alone m line on told (Ok fs) (Ok x) g e z = (fs, g, e)
next_line alone m line on told (Err f) (Ok x) g e z = absurd g
next_line alone m line on told a (Err (Fault f)) g e z = absurd cc
next_line alone m line on told a (Err Memory) g e z = absurd cc

-- a line at which something is wrong
pub wrong_line : (alone : Bool) (m : Lines) (line : ℕ) (on : List Entry → Result (List Entry) TextError) (told : Result (List Entry) TextError) (a : Result (List Entry) LineFault) (r : Result (Unit {0}) LineError) (h : TextError) → Gathers alone a m r → behind line on a ≡ told →
    result_at line r ≡ Err h → GathersAll alone told (Err h)
wrong_line alone m line on told a (Ok x) h g e z = absurd cc
wrong_line alone m line on told (Ok fs) (Err (Fault f)) h g e z = absurd cc
wrong_line alone m line on told (Err k) (Err (Fault f)) h g e z = let is : h ≡ Line line f = cc in rw is (sym e ∙ ap (behind line on) g)
wrong_line alone m line on told a (Err Memory) h g e z = let is : h ≡ MemoryOfText = cc in rw is tt

-- no line is left
pub all_lines : (alone : Bool) (es : List Entry) (l : Lines) (text : List ℕ) (n k : ℕ) (told : Result (List Entry) TextError) → Gathered alone es l → k ≡ length (enumerate_from 0 (slice_split is_newline text)) → entries alone n es (drop k (lines_of text)) ≡ told → GathersAll alone told (Ok l)
unfolding entries
all_lines alone es l text n k told g past e =
    subst (λ z. GathersAll alone z (Ok l)) (sym (at_drop_all (entries alone n es) (lines_of text) k (omega (arith, past, length-enumerate_from 0 (slice_split is_newline text), length-map (slice_split is_newline text) (λ line. words (before_first is_hash line))))) ∙ e) g

-- what is told by the entries of a text is told by the text
pub told_by : {A B : Type 0} (view : A → B) (from : List Entry → Result B TextError) (alone : Bool) (l : Lines) (told : Result (List Entry) TextError) (r : Result A TextError) → GathersAll alone told (Ok l) →
    ((a : Bool) (es : List Entry) → Gathered a es l → Tells view (from es) r) → Tells view (and_then from told) r
told_by view from alone l (Ok es) r g k = k alone es g
told_by view from alone l (Err e) r g k = absurd g
