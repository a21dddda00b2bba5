-- How far a pass has come: the classes that are spent, and how many steps are left. Assumes nothing: these are definitions.
use Rattle.std.specs.Prelude.{◌≡◌, ℕ, ◌+◌, ◌*◌, ◌<◌, ◌≤◌, true, not, ◌&&◌, ◌==◌}
use Rattle.road.specs.Roads.{Town}
use Rattle.road.specs.Counts.{bit, sum, size, Set, Side}
use Rattle.join.specs.declared.partition.Classes.{Classes}
use Rattle.join.specs.declared.turn.Turn.{Turn}
use Rattle.join.specs.declared.turn.Turn.TheVariants.{Better, Charge, Done}
use Rattle.join.specs.Classes.{label_in, Labels}

-- a class that some street leaves to a crossing that is as much nearer as the street is long
pub record Spent (t : Town) (l f cls : ℕ → ℕ) (c : ℕ) : Type 0 where
  pub by : ℕ
  pub x : ℕ
  pub y : ℕ
  pub below : by < size t
  pub side : Side t by x y
  pub inside : cls x ≡ c
  pub outside : cls y ≡ c → ⊥
  pub nearer : f x ≡ f y + l by

-- two for each class of the crossings below n, and one more for each that is not spent: a step merges two classes or spends one
unfoldable pub steps_left : ℕ → (ℕ → ℕ) → Set → ℕ
steps_left n cls spent = 2 * sum n (λ v. bit (cls v == v)) + sum n (λ v. bit (cls v == v && not (spent v)))

-- after n charges some classes are spent, and no more than 300 - n steps are left
pub record Progress (t : Town) (l g : ℕ → ℕ) (c : Classes) (n : ℕ) : Type 0 where
  pub labels : Labels 100 (label_in c)
  pub spent : Set
  pub shown : (a : ℕ) → spent a ≡ true → Spent t l g (label_in c) a
  pub few : n + steps_left 100 (label_in c) spent ≤ 300

-- how many classes a turn charges
abbrev pub charges_in : Turn → ℕ
charges_in (Better f) = 0
charges_in (Charge s ls) = 1
charges_in Done = 0
