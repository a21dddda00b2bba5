-- White space is trimmed, and a word is cut off where it ends.
use Rattle.std.proofs.Common.{◌≡◌, ◌<◌, map, List, ℕ, ◌++◌, [], ◌∷◌, drop, ap, sym, ◌∙◌, rules, tests, append-nil, append_assoc}
use Rattle.std.proofs.lemmas.List.{map-append}
use Rattle.text.proofs.Cutting.{before_hash, trimmed, no_white_first, first_word, no_word, boundary}
use Rattle.text.proofs.word.words.Goals as goal

pub loop-word-init : goal.loop-word-init
loop-word-init c =
    let r = c.trim_ascii_start-rest in
    (r.utf8, no_white_first _ _ r.ensures.value, ap (λ xs. map (λ w. w.now) xs ++ before_hash r.result.now) c.new-words.ensures.items ∙ trimmed _ _ r.ensures.value)

pub split_at-requires : goal.split_at-requires
split_at-requires c = boundary c.loop-word.rest.now c.word_length.result c.word_length.ensures

pub returns-then-is_empty : goal.returns-then-is_empty
returns-then-is_empty c =
    let ended : c.word_length.result ≡ 0 = search (rules, tests) in
    let none : before_hash c.loop-word.rest.now ≡ [] = no_word c.loop-word.rest.now c.word_length.result c.word_length.ensures ended c.loop-word.invariant.1 in
    let words : List (List ℕ) = map (λ w. w.now) c.loop-word.words.items in
    sym (append-nil words) ∙ ap (λ z. words ++ z) (sym none) ∙ c.loop-word.invariant.2

pub loop-word-preserved : goal.loop-word-preserved
loop-word-preserved c =
    let r = c.trim_ascii_start-rest-in-loop-word in
    let rest = c.loop-word.rest.now in
    let n = c.word_length.result in
    let word = c.split_at.result.0.now in
    let words : List (List ℕ) = map (λ w. w.now) c.loop-word.words.items in
    let some : 0 < n = search (rules, tests) in
    let first : before_hash rest ≡ word ∷ before_hash r.result.now =
    first_word rest n c.word_length.ensures some
    ∙ ap (λ z. z ∷ before_hash (drop n rest)) (sym c.split_at.ensures.front)
    ∙ ap (λ z. word ∷ z) (ap before_hash (sym c.split_at.ensures.back) ∙ sym (trimmed _ _ r.ensures.value)) in
    let pushed : map (λ w. w.now) c.push.new.self.items ≡ words ++ word ∷ [] = ap (map (λ w. w.now)) c.in_ok-push.ensures.items ∙ map-append (λ w. w.now) c.loop-word.words.items (c.split_at.result.0 ∷ []) in
    (r.utf8, no_white_first _ _ r.ensures.value, ap (λ z. z ++ before_hash r.result.now) pushed ∙ append_assoc words (word ∷ []) (before_hash r.result.now) ∙ ap (λ z. words ++ z) (sym first) ∙ c.loop-word.invariant.2)
