-- A list of amounts that is written place by place. Assumes nothing: these are definitions.
use Rattle.std.specs.Prelude.{◌≡◌, ℕ, ◌<◌, ◌≤◌, List, ℤ}
use Rattle.join.specs.Amounts.{number, Whole}

-- before place i it is as it shall be, from there on as it was
pub record Upto (zs : List ℤ) (new old : ℕ → ℕ) (i : ℕ) : Type 0 where
  pub whole : Whole zs
  pub done : (j : ℕ) → j < i → number zs j ≡ new j
  pub left : (j : ℕ) → i ≤ j → number zs j ≡ old j
