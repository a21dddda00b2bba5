-- What the checker says, read as an answer. Assumes nothing.
use Rattle.std.proofs.Common.{◌≡◌, ℕ, ◌==◌, Bool, List, [], ◌∷◌, Some, None, Ok, Err, Option, Result, get_or, sym, refl, ap, ◌∙◌, arith}
use Rattle.road.specs.declared.fault.Fault.TheVariants.{Leg as AtLeg, Home, Street as LeftOut}
use Rattle.road.specs.declared.refusal.Refusal.{Refusal}
use Rattle.road.specs.Roads.{pick}
use Rattle.road.specs.Refusals.{listed, Answers}
use Rattle.sheet.specs.declared.word.SheetFault.TheVariants.{Part as AtPart, Street as AtStreet}
use Rattle.sheet.specs.declared.word.Word.{Word}
use Rattle.sheet.specs.declared.word.Word.TheVariants.{NoRound, NoSheet, Shortest, Apart}
use Rattle.sheet.specs.Words.{said, unless_refused}

-- the word of such numbers
word_in : ℕ × List ℕ → Word
word_in x = pick (x.0 == 0) (NoRound (pick (a == 0) (AtLeg b) (pick (a == 1) Home (LeftOut b)))) (pick (x.0 == 1) (NoSheet (pick (a == 0) (AtPart b) (AtStreet b))) (pick (x.0 == 2) (Shortest a) (Apart a b)))
  where
    a : ℕ
    a = get_or x.1 0 0

    b : ℕ
    b = get_or x.1 1 0

word_back : (w : Word) → word_in (said (Ok w)) ≡ w
unfolding word_in
word_back (NoRound (AtLeg i)) = refl
word_back (NoRound Home) = refl
word_back (NoRound (LeftOut k)) = refl
word_back (NoSheet (AtPart i)) = refl
word_back (NoSheet (AtStreet k)) = refl
word_back (Shortest n) = refl
word_back (Apart n m) = refl

-- a word is no refusal
not_refused : (w : Word) (xs : List ℕ) → said (Ok w) ≡ (4, xs) → ⊥
not_refused (NoRound (AtLeg i)) xs e = omega (arith, ap (λ x. x.0) e)
not_refused (NoRound Home) xs e = omega (arith, ap (λ x. x.0) e)
not_refused (NoRound (LeftOut k)) xs e = omega (arith, ap (λ x. x.0) e)
not_refused (NoSheet (AtPart i)) xs e = omega (arith, ap (λ x. x.0) e)
not_refused (NoSheet (AtStreet k)) xs e = omega (arith, ap (λ x. x.0) e)
not_refused (Shortest n) xs e = omega (arith, ap (λ x. x.0) e)
not_refused (Apart n m) xs e = omega (arith, ap (λ x. x.0) e)

same_word : (v w : Word) → said (Ok v) ≡ said (Ok w) → v ≡ w
same_word v w e = sym (word_back v) ∙ ap word_in e ∙ word_back w

-- an answer that says a word is that word
pub said_word : (w : Word) (r : Result Word Refusal) → said r ≡ said (Ok w) → r ≡ Ok w
said_word w (Ok v) e = ap Ok (same_word v w e)
said_word w (Err r) e = absurd (not_refused w _ (sym e))

-- so what is said is the refusal that is due, or else the word
pub said_answers : (due : Option (ℕ × ℕ)) (w : Word) (r : Result Word Refusal) → said r ≡ unless_refused due w → Answers due (λ v. v ≡ w) r
said_answers None w (Ok v) e = (refl, same_word v w e)
said_answers None w (Err r) e = absurd (not_refused w _ (sym e))
said_answers (Some due) w (Ok v) e = absurd (not_refused v _ e)
said_answers (Some due) w (Err r) e = ap (λ x. Some (get_or x.1 0 0, get_or x.1 1 0)) (sym e)
