-- The checker's word on what a text tells, read off the line that says it. Assumes nothing.
use Rattle.std.proofs.Common.{◌≡◌, ℕ, ◌^◌, ◌<◌, ◌↔◌, List, [], ◌∷◌, ◌++◌, get_or, drop, Ok, Result, IfSome, decimal, sym, ap, ◌∙◌, subst, arith, string_bytes}
use Rattle.std.proofs.lemmas.List.{append_cancel_right}
use Rattle.std.proofs.lemmas.Fmt.{decimal_is_IsNumeral_wide}
use Rattle.std.specs.Str.Parse.{digits_value}
use Rattle.road.specs.declared.fault.Fault.TheVariants.{Leg as AtLeg, Home, Street as LeftOut}
use Rattle.road.specs.Roads.{Round, far, all_streets}
use Rattle.road.specs.Numbers.{legs_in}
use Rattle.sheet.specs.declared.word.SheetFault.TheVariants.{Part as AtPart, Street as AtStreet}
use Rattle.sheet.specs.declared.word.Word.{Word}
use Rattle.sheet.specs.declared.word.Word.TheVariants.{NoRound, NoSheet, Shortest, Apart}
use Rattle.sheet.specs.Numbers.{sheet_in}
use Rattle.sheet.specs.Sheet.{Sheet}
use Rattle.sheet.specs.Shown.{Accepted}
use Rattle.sheet.specs.Laws.{Agree}
use Rattle.sheet.proofs.Judged.{word_shortest}
use Rattle.sheet.proofs.Right.{accepted}
use Rattle.text.specs.declared.text_error.TextError.{TextError}
use Rattle.text.specs.Format.{RoundNumbers, told_round}
use Rattle.text.specs.Texts.{town_of, word_on}
use Rattle.text.specs.Said.{said_text}
use Rattle.files.specs.declared.answer.Reply.{Reply}
use Rattle.answers.specs.Answers.{Checks, TellsShortest, ShortestOf, shortest_line, shortest_lengths}

decimal_same : (m n : ℕ) → m < 10 ^ 64 → n < 10 ^ 64 → decimal m ≡ decimal n → m ≡ n
decimal_same m n h k e = sym (decimal_is_IsNumeral_wide m h).1 ∙ ap (digits_value 10) e ∙ (decimal_is_IsNumeral_wide n k).1

-- no other word is said by the line that says shortest
line_is : (all n : ℕ) (w : Word) → n < 10 ^ 64 → IfSome (shortest_lengths all w) (λ l. l.round < 2 ^ 128) → said_text w ++ 10 ∷ [] ≡ shortest_line n → w ≡ Shortest n
line_is all n (Shortest m) h k e = ap Shortest (decimal_same m n (omega arith) h (append_cancel_right (decimal m) (decimal n) (10 ∷ []) (ap (drop 9) e)))
line_is all n (Apart a b) h k e = absurd (omega (arith, ap (λ xs. get_or xs 0 0) e))
line_is all n (NoRound (AtLeg i)) h k e = absurd (omega (arith, ap (λ xs. get_or xs 0 0) e))
line_is all n (NoRound Home) h k e = absurd (omega (arith, ap (λ xs. get_or xs 0 0) e))
line_is all n (NoRound (LeftOut j)) h k e = absurd (omega (arith, ap (λ xs. get_or xs 0 0) e))
line_is all n (NoSheet (AtPart i)) h k e = absurd (omega (arith, ap (λ xs. get_or xs 0 0) e))
line_is all n (NoSheet (AtStreet j)) h k e = absurd (omega (arith, ap (λ xs. get_or xs 0 0) e))

-- a text tells one thing
one_told : (told : Result RoundNumbers TextError) (r s : RoundNumbers) → told ≡ Ok r → told ≡ Ok s → r ≡ s
one_told told r s e f = cc

module _ (text : List ℕ) (a : Reply) (c : Checks text a) (n : ℕ) (h : n < 10 ^ 64) where
  -- the line says shortest just if a round of that length and a sheet that agree are told
  pub told_shortest : IfSome a.lengths (λ l. l.round < 2 ^ 128) → (string_bytes a.text ≡ shortest_line n) ↔ TellsShortest text n
  told_shortest k = (to, from)
    where
      x : RoundNumbers
      x = c.numbers

      tells :
          Round (town_of x.town) x.town.depot (legs_in x.legs) × Sheet (town_of x.town) (sheet_in x.town.crossings x.parts)
          × Agree (town_of x.town) (legs_in x.legs) (sheet_in x.town.crossings x.parts) × (n ≡ far (town_of x.town) (legs_in x.legs)) → TellsShortest text n
      tells s = record { numbers = x; told = c.told; round = s.0; sheet = s.1; agree = s.2; length_is = s.3 }

      to : string_bytes a.text ≡ shortest_line n → TellsShortest text n
      to e =
          let small = subst (λ ls. IfSome ls (λ l. l.round < 2 ^ 128)) c.lengths k in
          let w = line_is (all_streets (town_of x.town).streets) n (word_on x) h small (sym c.written ∙ e) in
          tells ((word_shortest (town_of x.town) x.town.depot (legs_in x.legs) (sheet_in x.town.crossings x.parts) n).0 w)

      from : TellsShortest text n → string_bytes a.text ≡ shortest_line n
      from s =
          let same = one_told (told_round text) s.numbers x s.told c.told in
          let w = (word_shortest (town_of s.numbers.town) s.numbers.town.depot (legs_in s.numbers.legs) (sheet_in s.numbers.town.crossings s.numbers.parts) n).1 (s.round, s.sheet, s.agree, s.length_is) in
          c.written ∙ ap (λ v. said_text v ++ 10 ∷ []) (sym (ap word_on same) ∙ w)

-- and then no round of the town is shorter
pub told_least : (text : List ℕ) (n : ℕ) → TellsShortest text n → ShortestOf text n
unfolding Accepted
told_least text n s =
    let x = s.numbers in
    record {
      numbers = x;
      told = s.told;
      legs = legs_in x.legs;
      shortest = accepted (town_of x.town) x.town.depot (sheet_in x.town.crossings x.parts) (legs_in x.legs) s.sheet s.round s.agree;
      length_is = s.length_is;
    }
