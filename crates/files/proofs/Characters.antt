-- Characters that are shown one after another. Assumes nothing.
use Rattle.std.proofs.Common.{◌≡◌, ◌≢◌, ℕ, ◌<◌, ◌≤◌, Bool, true, false, cond, List, [], ◌∷◌, ◌++◌, map, chars, encode_utf8, encode_utf8_all, refl, sym, ap, ap₂, ◌∙◌, arith}
use Rattle.std.specs.Char.{is_control}
use Rattle.std.specs.Str.{NonePass}
use Rattle.std.proofs.lemmas.Bool.Decides.{nat_tests}
use Rattle.std.proofs.lemmas.List.{map-append, map-id, append-nil}
use Rattle.std.proofs.lemmas.Str.{encodes-append, encodes_same, encodes-chars, NoCharPasses-byte}
use Rattle.files.specs.Laws.{OneLine}
use Rattle.files.specs.Names.{shown, one_line}

-- one more is shown
pub one_more : (cs : List ℕ) (c d : ℕ) → d ≡ shown c → encode_utf8_all (map shown cs) ++ encode_utf8 d ≡ encode_utf8_all (map shown (cs ++ c ∷ []))
one_more cs c d e =
    ap (λ x. encode_utf8_all (map shown cs) ++ x) (ap encode_utf8 e ∙ sym (append-nil (encode_utf8 (shown c))))
    ∙ sym (encodes-append (map shown cs) (shown c ∷ []))
    ∙ ap encode_utf8_all (sym (map-append shown cs (c ∷ [])))

-- all of them
pub all_shown : (cs ds : List ℕ) → map (λ c. c) cs ≡ ds → encode_utf8_all (map shown cs) ≡ encode_utf8_all (map shown ds)
all_shown cs ds e = ap (λ x. encode_utf8_all (map shown x)) (sym (map-id cs) ∙ e)

no_control : (b : Bool) (c : ℕ) → is_control c ≡ b → is_control (cond b 63 c) ≡ false
no_control true c e = refl
no_control false c e = e

none_control : (cs : List ℕ) → NonePass is_control (map shown cs)
none_control [] = tt
none_control (c ∷ cs) = (no_control (is_control c) c refl, none_control cs)

same_shown : (cs : List ℕ) → NonePass is_control cs → map shown cs ≡ cs
same_shown [] h = refl
same_shown (c ∷ cs) h = ap₂ (λ d ds. d ∷ ds) (ap (λ b. cond b 63 c) h.0) (same_shown cs h.1)

plain : (b : ℕ) → (b < 128 → is_control b ≡ false) → (32 ≤ b) × (b ≢ 127)
plain b h = grind (arith, nat_tests)

-- a text in one line has no control character, and stays as it is if it had none
pub in_one_line : OneLine
in_one_line x u = (
  (λ i l. plain _ (NoCharPasses-byte is_control (one_line x) i (map shown (chars x), refl, none_control (chars x)) l)),
  λ h. let e = encodes_same (chars x) h.0 (encodes-chars x u ∙ sym h.1) in
      ap (λ cs. encode_utf8_all (map shown cs)) e ∙ ap encode_utf8_all (same_shown h.0 h.2) ∙ h.1,
)
