-- Where all that was asked is answered. Assumes nothing.
use Rattle.std.proofs.Common.{◌≡◌, ℕ, ◌+◌, ◌<◌, ◌≤◌, Bool, IsTrue, List, length, get_or, take, All, Option, None, Result, Ok, Err, IsOkAnd, IfOk, option_map, inr, sym, ap, subst, ◌∙◌, arith, Bor}
use Rattle.std.proofs.lemmas.List.{take_all}
use Rattle.std.proofs.lemmas.List.Elements.{All-more}
use Rattle.files.specs.declared.answer.Reply.{Reply}
use Rattle.files.specs.Arguments.{options_of, names_of, first_unknown}
use Rattle.files.specs.Answered.{Answered, AllAnswered}

module _ {X : Type 0} (P : X → Type 0) (xs : List X) where
  -- one more, and it is answered
  pub one_more : (n m i : ℕ) (x : X) → i < length xs → m ≡ n + 1 → (n ≡ i → All P (take i xs)) → P (get_or xs i x) → m ≡ i + 1 → All P (take (i + 1) xs)
  one_more n m i x l e h p f = All-more P xs i x l (h (omega (arith, e, f))) p

  -- one more, and fewer are answered
  pub one_fewer : (n m i : ℕ) → n ≤ i → m ≡ n → m ≡ i + 1 → All P (take (i + 1) xs)
  one_fewer n m i l e f = absurd (omega (arith, l, e, f))

  -- and so all are
  pub all_of : (n i : ℕ) → i ≤ length xs → length xs ≤ i → n ≡ length xs → (n ≡ i → All P (take i xs)) → All P xs
  all_of n i l m e h = subst (All P) (take_all i xs m) (h (omega (arith, l, m, e)))

-- nothing unknown is asked, and each name is answered
pub all_answered : (holds : List ℕ → List ℕ → Type 0) (answers : List (List ℕ) → List ℕ → Reply → Type 0) (known args options names asked each : List (List ℕ)) (r : Option (Bor (List ℕ))) →
    option_map (λ o. o.now) r ≡ first_unknown known options → r ≡ None → options ≡ options_of args → names ≡ names_of args →
    asked ≡ options → each ≡ names → All (Answered holds (answers asked)) each → AllAnswered holds answers known args
all_answered holds answers known args options names asked each r u n o e a b h =
    inr (
      ap (first_unknown known) (sym o) ∙ sym u ∙ ap (option_map (λ o. o.now)) n,
      subst (λ ys. All (Answered holds (answers (options_of args))) ys) (b ∙ e) (subst (λ os. All (Answered holds (answers os)) each) (a ∙ o) h),
    )

-- what holds of the arguments in hand holds of those that were given
pub of_given : {A E F Y : Type 0} (W : Y → Type 0) (f : A → Y) (y : Y) (given : Result A E) (r : Result Bool F) →
    IsOkAnd given (λ a. y ≡ f a) → IfOk r (λ b. IsTrue b → W y) → IfOk r (λ b. IsTrue b → IsOkAnd given (λ a. W (f a)))
of_given W f y (Ok a) (Ok b) e h = λ t. subst W e (h t)
of_given W f y (Ok a) (Err x) e h = h
of_given W f y (Err a) r e h = absurd e
