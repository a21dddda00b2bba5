-- The way down over the stages of a pass. Assumes nothing.
use Rattle.std.proofs.Common.{◌≡◌, ℕ, zero, suc, ◌+◌, ◌<◌, ◌≤◌, true, false, not, ◌&&◌, List, length, get_or, vec_items, sym, refl, ap, ◌∙◌, subst, ap₂, arith}
use Rattle.std.proofs.lemmas.List.{get_or_read}
use Rattle.std.specs.Global.{Vec}
use Rattle.road.specs.declared.leg.Leg.{Leg}
use Rattle.road.specs.Roads as roads
use Rattle.road.specs.Counts.{when, size, Set, cut}
use Rattle.road.specs.Model.{marked}
use Rattle.join.specs.declared.level.Level.{Level}
use Rattle.join.specs.declared.packing.CutPacking.{CutPacking}
use Rattle.join.specs.declared.partition.Classes.{Classes}
use Rattle.join.specs.declared.prices.Prices.{Prices}
use Rattle.join.specs.declared.turn.Stage.{Stage}
use Rattle.join.specs.Joins.{shorter}
use Rattle.join.specs.Amounts.{amount}
use Rattle.join.specs.Borders.{Bordered}
use Rattle.join.specs.Problems.{town_in, costs_in, start_in, reached_in}
use Rattle.join.specs.Prices.{price_in}
use Rattle.join.specs.Potentials.{Cheaper, lower}
use Rattle.join.specs.Turns.{lengths_at, potential_at}
use Rattle.join.specs.Outcomes.{Held, Over}
use Rattle.join.specs.Certified.{no_stage, class_at, charge_at}
use Rattle.join.specs.Passes.{longer, higher, lengths_after, potentials_after, After, Staged}
use Rattle.join.proofs.Exchanging.{over_from}
use Rattle.join.proofs.Restoring.{longer_shorter, higher_lower}

-- the same stage at the same lengths and potentials
pub staged_same : (q : Prices) (c : Classes) (l l' g g' : ℕ → ℕ) (s : Stage) → l' ≡ l → g' ≡ g → Staged q c l g s → Staged q c l' g' s
staged_same q c l l' g g' s el eg st = rw (el, eg) st

-- one stage more
pub lengths_more : (t : roads.Town) (c : ℕ → ℕ) (ss : List Stage) (n : ℕ) → lengths_after t c ss (suc n) ≡ shorter t (class_at ss n) (charge_at ss n) (lengths_after t c ss n)
unfolding lengths_after
lengths_more t c ss n = refl

pub potentials_more : (In : Set) (f : ℕ → ℕ) (ss : List Stage) (n : ℕ) → potentials_after In f ss (suc n) ≡ lower In (class_at ss n) (charge_at ss n) (potentials_after In f ss n)
unfolding potentials_after
potentials_more In f ss n = refl

-- no stage makes lengths or potentials more
pub lengths_low : (t : roads.Town) (c : ℕ → ℕ) (ss : List Stage) (n k : ℕ) → lengths_after t c ss n k ≤ c k
unfolding lengths_after
lengths_low t c ss zero k = omega arith
lengths_low t c ss (suc n) k = omega (arith, lengths_low t c ss n k)

potentials_low : (In : Set) (f : ℕ → ℕ) (ss : List Stage) (n u : ℕ) → potentials_after In f ss n u ≤ f u
unfolding potentials_after
potentials_low In f ss zero u = omega arith
potentials_low In f ss (suc n) u = omega (arith, potentials_low In f ss n u)

-- at the start nothing is taken off
pub cheaper_none : (q : Prices) (ss : List Stage) (v : Level) → After q ss 0 v → (u : ℕ) (J : Set) →
    Cheaper (town_in q.problem) (start_in q.problem) (reached_in q.problem) (lengths_at v) (potential_at v) u J → Cheaper (town_in q.problem) (start_in q.problem) (reached_in q.problem) (costs_in q.problem) (price_in q) u J
unfolding lengths_after potentials_after
cheaper_none q ss v a u J c =
    subst (λ l. Cheaper (town_in q.problem) (start_in q.problem) (reached_in q.problem) l (price_in q) u J) a.streets
    (subst (λ g. Cheaper (town_in q.problem) (start_in q.problem) (reached_in q.problem) (lengths_at v) g u J) a.crossings c)

-- stage i of a packing, as the code reads it, is undone
module _ (a : CutPacking) (i : ℕ) (h : i < length a.stages.now) (v : Level) (after : After a.prices.now a.stages.now (i + 1) v) (x : Stage) (is : x ≡ get_or a.stages.now i x) where
  abbrev q : Prices
  q = a.prices.now

  abbrev t : roads.Town
  t = town_in q.problem

  abbrev In : Set
  In = reached_in q.problem

  abbrev ss : List Stage
  ss = a.stages.now

  abbrev s : Stage
  s = get_or ss i x

  abbrev l : ℕ → ℕ
  l = lengths_after t (costs_in q.problem) ss i

  abbrev g : ℕ → ℕ
  g = potentials_after In (price_in q) ss i

  here : get_or ss i no_stage ≡ s
  here = sym (get_or_read ss i x h is no_stage) ∙ is

  staged : Staged q a.classes.now l g s
  staged = subst (Staged q a.classes.now l g) here (a.staged i h)

  last : After q ss (suc i) v
  last = subst (λ n. After q ss n v) (omega arith) after

  lengths_last : lengths_at v ≡ shorter t (marked s.marks) (amount s.charge) l
  lengths_last = last.streets ∙ lengths_more t (costs_in q.problem) ss i ∙ ap (λ z. shorter t (marked z.marks) (amount z.charge) l) here

  potentials_last : potential_at v ≡ lower In (marked s.marks) (amount s.charge) g
  potentials_last = last.crossings ∙ potentials_more In (price_in q) ss i ∙ ap (λ z. lower In (marked z.marks) (amount z.charge) g) here

  -- its charge put back gives what was left before it
  back_lengths : longer t (marked s.marks) (amount s.charge) (lengths_at v) ≡ l
  back_lengths = ap (longer t (marked s.marks) (amount s.charge)) lengths_last ∙ longer_shorter q.problem.streets.town.now (marked s.marks) (amount s.charge) l staged.streets

  back_potentials : higher In (marked s.marks) (amount s.charge) (potential_at v) ≡ g
  back_potentials = ap (higher In (marked s.marks) (amount s.charge)) potentials_last ∙ higher_lower In (marked s.marks) (amount s.charge) g staged.crossings

  -- its border is listed
  pub undo_listed : (ls : Vec Leg) → ls ≡ get_or a.borders.now i ls → (xs : List Leg) → xs ≡ vec_items (get_or a.borders.now i ls) → Bordered (town_in a.prices.now.problem) (marked (get_or a.stages.now i x).marks) xs
  undo_listed ls found xs e =
      subst (λ (z : Stage). Bordered t (marked z.marks) xs) here
      (subst (Bordered t (class_at ss i)) (sym (e ∙ ap vec_items (sym found))) (a.listed.border i ls h found))

  -- it fits
  pub back_fits : (k : ℕ) → k < size (town_in a.prices.now.problem) → cut (town_in a.prices.now.problem) (marked (get_or a.stages.now i x).marks) k ≡ true →
      lengths_at v k + amount (get_or a.stages.now i x).charge ≤ 4000000000
  back_fits k j u = omega (arith, ap (λ f. f k) back_lengths, lengths_low t (costs_in q.problem) ss i k, q.problem.streets.most k, ap (λ b. when b (amount s.charge)) u)

  pub back_low : (u : ℕ) → reached_in a.prices.now.problem u ≡ true → marked (get_or a.stages.now i x).marks u ≡ false → potential_at v u + amount (get_or a.stages.now i x).charge ≤ 1200000000000
  back_low u r o = omega (
    arith,
    ap (λ f. f u) back_potentials,
    potentials_low In (price_in q) ss i u,
    q.high u,
    ap₂ (λ a z. when (a && not z) (amount s.charge)) r o,
  )

  module _ (v' : Level) (el : lengths_at v' ≡ longer (town_in a.prices.now.problem) (marked (get_or a.stages.now i x).marks) (amount (get_or a.stages.now i x).charge) (lengths_at v))
      (eg : potential_at v' ≡ higher (reached_in a.prices.now.problem) (marked (get_or a.stages.now i x).marks) (amount (get_or a.stages.now i x).charge) (potential_at v)) where
    pub undo_after : After a.prices.now a.stages.now i v'
    undo_after = record { streets = el ∙ back_lengths; crossings = eg ∙ back_potentials }

    at_level : Staged q a.classes.now (lengths_at v') (potential_at v') s
    at_level = staged_same q a.classes.now _ _ _ _ s undo_after.streets undo_after.crossings staged

    -- the stage is as it was before its charge
    pub undo_held : Held a.prices.now v' a.classes.now (get_or a.stages.now i x)
    undo_held = record { below = staged.below; base = staged.base; stage = at_level.stage; inside = at_level.inside }

    -- and what is cheaper after it can be carried down
    pub undo_over : (u : ℕ) (J : Set) →
        Cheaper (town_in a.prices.now.problem) (start_in a.prices.now.problem) (reached_in a.prices.now.problem) (lengths_at v) (potential_at v) u J →
        Over (town_in a.prices.now.problem) (start_in a.prices.now.problem) (reached_in a.prices.now.problem) (lengths_at v') (potential_at v')
        (marked (get_or a.stages.now i x).marks) (amount (get_or a.stages.now i x).charge) u J
    undo_over u J ch =
        let T = start_in q.problem in
        let Z = marked s.marks in
        let e = amount s.charge in
        let dl : lengths_at v ≡ shorter t Z e (lengths_at v') = lengths_last ∙ ap (shorter t Z e) (sym undo_after.streets) in
        let dg : potential_at v ≡ lower In Z e (potential_at v') = potentials_last ∙ ap (lower In Z e) (sym undo_after.crossings) in
        over_from t T In (lengths_at v') (potential_at v') Z e u J at_level.streets at_level.crossings
        (subst (λ l. Cheaper t T In l (lower In Z e (potential_at v')) u J) dl (subst (λ g. Cheaper t T In (lengths_at v) g u J) dg ch))
