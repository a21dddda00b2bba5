-- From a state, by merging and charging classes until nothing costs anything, to a sheet. Assumes nothing.
use Rattle.std.proofs.Common.{◌≡◌, ℕ, zero, suc, ◌-◌, ◌*◌, ◌%◌, ◌<◌, ◌≤◌, Bool, true, false, not, ◌&&◌, eqb, List, [], ◌∷◌, length, get_or, sym, refl, ap, ◌∙◌, subst, ap₂, ⊎_elim, arith}
use Rattle.std.proofs.lemmas.Bool.{eqb-true, eqb-false, eq-eqb, ne_eqb, cases_Bool, cases_eq, both_ways, and_parts, not-true}
use Rattle.road.specs.Roads.{Town, street}
use Rattle.road.specs.Counts.{◌⊕◌, when, odd, size, one, two, Set, cut, Side, forth, back, all}
use Rattle.road.proofs.Parity.{xor_false}
use Rattle.road.proofs.Find.{None, Some, find, smallest}
use Rattle.sheet.specs.Sheet.{Part, ways_out, load, weights}
use Rattle.join.specs.Joins.{out, Joins, at, once, Least, shorter}
use Rattle.join.specs.Potentials.{lower}
use Rattle.join.specs.Progress.{steps_left}
use Rattle.join.specs.Extra.{Inside}
use Rattle.join.proofs.Joins.{join_none}
use Rattle.join.proofs.Step.{lower_in}
use Rattle.join.proofs.Labels.{steps_most}
use Rattle.join.proofs.Merge.{State, merge, merge_steps}
use Rattle.join.proofs.Charge.{Charged, charge}
use Rattle.join.proofs.Marks.{table, table_at, marks_odd, marks_load}

-- an odd number of streets lead out of each part
abbrev Odds : Town → List Part → Type 0
Odds t ps = (i : ℕ) → i < length ps → ways_out (get_or ps i (record { marks = []; weight = 0 })).marks t.streets % 2 ≡ 1

-- parts that weigh w, with odd borders, that load no street with more than l; at most n of them
pub record Priced (t : Town) (l : ℕ → ℕ) (w n : ℕ) : Type 0 where
  pub parts : List Part
  pub odds : Odds t parts
  pub bears : (k : ℕ) → k < size t → load parts (street t k) ≤ l k
  pub weigh : weights parts ≡ w
  pub few : length parts ≤ n

module _ (t : Town) (inside : Inside t) where
  -- the ends of streets are crossings of the town
  within : (k x y : ℕ) → k < size t → Side t k x y → y < t.crossings
  within k x y h forth = (inside k h).1
  within k x y h back = (inside k h).0

  -- no part at all
  empty : (l : ℕ → ℕ) (w n : ℕ) → w ≡ 0 → Priced t l w n
  unfolding weights load
  empty l w n q = record { parts = []; odds = λ i h. absurd (omega arith); bears = λ k h. omega arith; weigh = sym q; few = omega arith }

  -- one part fewer than allowed
  weaken : (l : ℕ → ℕ) (w n : ℕ) → Priced t l w n → Priced t l w (suc n)
  weaken l w n r = record { parts = r.parts; odds = r.odds; bears = r.bears; weigh = r.weigh; few = omega (arith, r.few) }

  -- a charge of a class with the depot in it makes no part
  skip : (l : ℕ → ℕ) (Z : Set) (e w n : ℕ) → Priced t (shorter t Z e l) w n → Priced t l w (suc n)
  skip l Z e w n r = record { parts = r.parts; odds = r.odds; bears = λ k h. omega (arith, r.bears k h); weigh = r.weigh; few = omega (arith, r.few) }

  -- any other makes one
  add : (l : ℕ → ℕ) (Z : Set) (e w n : ℕ) → out t all Z ≡ true → ((k : ℕ) → k < size t → cut t Z k ≡ true → e ≤ l k) → e ≤ w →
      Priced t (shorter t Z e l) (w - e) n → Priced t l w (suc n)
  unfolding weights load
  add l Z e w n o fits en r = record { parts = part ∷ r.parts; odds = odds; bears = bears; weigh = omega (arith, r.weigh); few = omega (arith, r.few) }
    where
      part : Part
      part = record { marks = table t.crossings Z; weight = e }

      odds : Odds t (part ∷ r.parts)
      odds zero h = marks_odd t inside Z (table t.crossings Z) (table_at t.crossings Z) o
      odds (suc i) h = r.odds i (omega arith)

      bears : (k : ℕ) → k < size t → load (part ∷ r.parts) (street t k) ≤ l k
      bears k h =
          let load = marks_load t inside Z (table t.crossings Z) (table_at t.crossings Z) e k h in
          ⊎_elim
          (λ c. omega (arith, r.bears k h, load, ap (λ z. when z e) c, fits k h c))
          (λ c. omega (arith, r.bears k h, load, ap (λ z. when z e) c))
          (cases_Bool (cut t Z k))

module _ (t : Town) (inside : Inside t) (r : ℕ) (hr : r < t.crossings) (In : Set) (ir : In r ≡ true) (K : ℕ → Set) where
  -- a step: nothing is left to pay, two classes become one, or a class is charged
  data Move (l f : ℕ → ℕ) (p : Set) (cls : ℕ → ℕ) (spent : Set) : Type 0 where
    end : f r ≡ 0 → Move l f p cls spent
    merges : (cls' : ℕ → ℕ) (spent' : Set) → State t (once t all r) In K l f p cls' spent' →
        steps_left t.crossings cls' spent' < steps_left t.crossings cls spent → Move l f p cls spent
    charges : Charged t (once t all r) In K l f cls spent → Move l f p cls spent

  -- what to do next: merge, charge, or end
  move : (l f : ℕ → ℕ) (p : Set) (cls : ℕ → ℕ) (spent : Set) → State t (once t all r) In K l f p cls spent → Move l f p cls spent
  move l f p cls spent st = ⊎_elim bridge still (find (size t) (λ k. eqb (l k) 0 && not (eqb (cls (one t k)) (cls (two t k)))))
    where
      bridge : Some (size t) (λ k. eqb (l k) 0 && not (eqb (cls (one t k)) (cls (two t k)))) → Move l f p cls spent
      bridge s =
          let k = s.0 in
          let a = and_parts (eqb (l k) 0) (not (eqb (cls (one t k)) (cls (two t k)))) s.2 in
          let z = eqb-true (l k) 0 a.0 in
          let ne = eqb-false (cls (one t k)) (cls (two t k)) (not-true (eqb (cls (one t k)) (cls (two t k))) a.1) in
          merges _ _ (merge t (once t all r) In K l f p cls spent st (within t inside) k s.1 z ne)
          (merge_steps t (once t all r) In K l f p cls spent st (within t inside) k s.1 z ne)

      still : None (size t) (λ k. eqb (l k) 0 && not (eqb (cls (one t k)) (cls (two t k)))) → Move l f p cls spent
      still no-bridge = ⊎_elim
          (λ s. ⊎_elim charges (λ z. end (z r ir))
          (charge t (once t all r) In K l f p cls spent st (within t inside) tight s.0 s.1 s.2 s.3))
          (λ s. absurd (both_ways (In r) (s r hr) ir))
          (smallest t.crossings In f)
        where
          tight : (k : ℕ) → k < size t → l k ≡ 0 → cls (one t k) ≡ cls (two t k)
          tight k h z = ⊎_elim (λ e. e) (λ e. absurd (both_ways (is_bridge k) (no-bridge k h) (bridged e))) (cases_eq (cls (one t k)) (cls (two t k)))
            where
              is_bridge : ℕ → Bool
              is_bridge k = eqb (l k) 0 && not (eqb (cls (one t k)) (cls (two t k)))

              bridged : (cls (one t k) ≡ cls (two t k) → ⊥) → is_bridge k ≡ true
              bridged e = ap₂ (λ a b. a && not b) (eq-eqb (l k) 0 z) (ne_eqb (cls (one t k)) (cls (two t k)) e)

  -- a charge, with the price of what is left
  price : (l f cls : ℕ → ℕ) (spent : Set) (n : ℕ) (c : Charged t (once t all r) In K l f cls spent) →
      Priced t (shorter t c.Z c.e l) (lower In c.Z c.e f r) n → Priced t l (f r) (suc n)
  price l f cls spent n c = go (c.Z r) refl
    where
      go : (z : Bool) → c.Z r ≡ z → Priced t (shorter t c.Z c.e l) (lower In c.Z c.e f r) n → Priced t l (f r) (suc n)
      go true q s =
          let w : lower In c.Z c.e f r ≡ f r = lower_in In c.Z c.e f r ir ∙ rw q (omega arith) in
          skip t inside l c.Z c.e (f r) n (subst (λ w. Priced t (shorter t c.Z c.e l) w n) w s)
      go false q s =
          let w : lower In c.Z c.e f r ≡ f r - c.e = lower_in In c.Z c.e f r ir ∙ rw q refl in
          let o = sym (xor_false (out t all c.Z)) ∙ ap (λ z. out t all c.Z ⊕ z) (sym q) ∙ c.odd_border in
          add t inside l c.Z c.e (f r) n o c.bears
          (subst (λ z. when (not z) c.e ≤ f r) q (c.covers r ir)) (subst (λ w. Priced t (shorter t c.Z c.e l) w n) w s)

  -- what is proved by induction on the steps that are left
  abbrev pub Prices : ℕ → Type 0
  Prices n =
      (l f : ℕ → ℕ) (p : Set) (cls : ℕ → ℕ) (spent : Set) → State t (once t all r) In K l f p cls spent →
      steps_left t.crossings cls spent ≤ n → Priced t l (f r) n

  -- where no step is left, nothing is left to pay
  last : (l f : ℕ → ℕ) (p : Set) (cls : ℕ → ℕ) (spent : Set) → Move l f p cls spent →
      steps_left t.crossings cls spent ≤ 0 → Priced t l (f r) 0
  last l f p cls spent (end q) h = empty t inside l (f r) 0 q
  last l f p cls spent (merges cls' spent' st falls) h = absurd (omega arith)
  last l f p cls spent (charges c) h = absurd (omega (arith, c.falls))

  -- one step, and the rest
  next : (n : ℕ) → Prices n → (l f : ℕ → ℕ) (p : Set) (cls : ℕ → ℕ) (spent : Set) → Move l f p cls spent →
      steps_left t.crossings cls spent ≤ suc n → Priced t l (f r) (suc n)
  next n rest l f p cls spent (end q) h = empty t inside l (f r) (suc n) q
  next n rest l f p cls spent (merges cls' spent' st falls) h = weaken t inside l (f r) n (rest l f p cls' spent' st (omega arith))
  next n rest l f p cls spent (charges c) h =
      price l f cls spent n c
      (rest (shorter t c.Z c.e l) (lower In c.Z c.e f) c.p' cls c.spent' c.state (omega (arith, c.falls)))

  -- every state has its price
  pub pricing : (n : ℕ) → Prices n
  pricing zero l f p cls spent st h = last l f p cls spent (move l f p cls spent st) h
  pricing (suc n) l f p cls spent st h = next n (pricing n) l f p cls spent (move l f p cls spent st) h

  -- the state at the start: each crossing is a class
  start : (l f : ℕ → ℕ) (p : Set) → Least t (once t all r) In l f K → ((k : ℕ) → k < size t → odd (l k) ≡ cut t p k) →
      State t (once t all r) In K l f p (λ v. v) (λ _. false)
  start l f p m colour = record {
    least = m;
    colour = colour;
    labels = record { small = λ v h. h; own = λ v h. refl };
    ways = λ v w e. (λ _. false, subst (λ x. Joins t (at v) x (λ _. false)) e (join_none t v), λ k _ q. absurd (both_ways false refl q));
    done = λ c e. absurd (both_ways false refl e);
  }

  -- least joins, for lengths with a colouring, have a sheet of at most 3 * crossings parts
  pub least_priced : (l f : ℕ → ℕ) (p : Set) → Least t (once t all r) In l f K → ((k : ℕ) → k < size t → odd (l k) ≡ cut t p k) →
      Priced t l (f r) (3 * t.crossings)
  least_priced l f p m colour = pricing (3 * t.crossings) l f p (λ v. v) (λ _. false) (start l f p m colour) (steps_most t.crossings (λ v. v) (λ _. false))
