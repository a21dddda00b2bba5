-- What chains over the numbers below a bound find, how many they count, and what they sum. Assumes nothing.
use Rattle.std.proofs.Common.{◌≡◌, ℕ, zero, suc, ◌+◌, ◌%◌, ◌<◌, ◌≤◌, Bool, true, false, List, [], ◌∷◌, length, filter, map, fold, take, Option, Some, None, MatchOption, ℤ, pos, ◌+ℤ◌, FitsSigned, w64, refl, sym, ap, ap₂, ◌∙◌, subst, ⊎_elim, eqb, map-id, zero-add, arith}
use Rattle.std.proofs.iter.Yields.{nat_range_steps}
use Rattle.std.proofs.iter.runs.Sources.{nat_range_steps_back}
use Rattle.std.proofs.lemmas.Bool.{both_ways, cases_eq}
use Rattle.std.proofs.lemmas.Int.{ints}
use Rattle.std.proofs.lemmas.Iterator.{YieldsList, first_from_Range, YieldsList-from_range, YieldsList-from_map}
use Rattle.std.proofs.lemmas.Iterator.Adapters.{total_from_yields_List}
use Rattle.std.proofs.lemmas.Iterator.Consumers.{count_from_yields_List, fits_by_from_yields_list, sum_by_from_yields_List, YieldsList-from_filter, YieldsList-so_far}
use Rattle.std.proofs.lemmas.List.Sums.{sum_by-cons}
use Rattle.std.specs.Bool.{⊤}
use Rattle.std.specs.Fn.{CalledAt}
use Rattle.std.specs.Iterator.{CallableAtEachTurn, Drains, Yields, YieldsThen}
use Rattle.std.specs.Iterator.Adapters.{filter_source, filter_callee, filter_steps, filter_map_source, filter_map_callee, filter_map_steps, rev_source, rev_steps, map_source, map_callee, map_steps}
use Rattle.std.specs.Iterator.Runs.{EachRunFrom, YieldsRun}
use Rattle.std.specs.Option.{IsSome}
use Rattle.std.specs.List.{FoldsTo, range_with_len, sum_by}
use Rattle.std.specs.declared.iter.Filter.{Filter}
use Rattle.std.specs.declared.iter.FilterMap.{FilterMap}
use Rattle.std.specs.declared.iter.Map.{Map}
use Rattle.std.specs.declared.iter.Rev.{Rev}
use Rattle.std.specs.declared.ops.Range.{Range}
use mathlib.Core.Bool.{cond}
use denote.Param.Members.{Mut, Called}
use denote.Ref.{Bor}
use Rattle.road.specs.Counts.{bit, odd, par, sum}
use Rattle.road.proofs.Parity.{odd_bit, odd_mod}
use Rattle.road.proofs.Sums.{odd_sum, par_ext, sum_ext, sum_front}
use Rattle.road.proofs.First.{FirstBroken}

-- `find` over a range: what follows of the number that is found, and what follows if there is none
pub first_in : {F : Type 0} {g : Mut F (Bor ℕ × Unit {0}) Bool} {f : F} {N : Type 0} {S : ℕ → Type 0} {s : Range ℕ} (Yes No : ℕ → Type 0) (u : Range ℕ) (r : Option ℕ) →
    (xs : List ℕ) × (j : F) × YieldsThen nat_range_steps s xs r u × FoldsTo (λ p x q. CalledAt g p x false q) f xs j × MatchOption r ⊤ (λ x. (h : F) × CalledAt g j x true h) →
    ((x : ℕ) (q : F) → CalledAt g f x true q → Yes x) → ((x : ℕ) (q : F) → CalledAt g f x false q → (q ≡ f) × No x) →
    (((k : ℕ) → s.start ≤ k → k < s.end → No k) → N) → ((k : ℕ) → k < s.end → Yes k → S k) → MatchOption r N S
first_in {N = N} {S = S} {s = s} Yes No u r ran taken refused none some = at r (first_from_Range s u _ r Yes No ran taken refused)
  where
    at : (r : Option ℕ) →
        MatchOption r ((k : ℕ) → s.start ≤ k → k < s.end → No k) (λ i. (s.start ≤ i) × (i < s.end) × Yes i × ((k : ℕ) → s.start ≤ k → k < i → No k)) → MatchOption r N S
    at None h = none h
    at (Some i) h = some i h.1 h.2

-- `find` of the first that breaks a rule
pub range_broken : {F : Type 0} {g : Mut F (Bor ℕ × Unit {0}) Bool} {f : F} {n : ℕ} (kept : ℕ → Bool) (u : Range ℕ) (r : Option ℕ) →
    (xs : List ℕ) × (j : F) × YieldsThen nat_range_steps (record { start = 0; end = n }) xs r u × FoldsTo (λ p x q. CalledAt g p x false q) f xs j
    × MatchOption r ⊤ (λ x. (h : F) × CalledAt g j x true h) →
    ((x : ℕ) (q : F) → CalledAt g f x true q → kept x ≡ false) → ((x : ℕ) (q : F) → CalledAt g f x false q → (q ≡ f) × (kept x ≡ true)) → FirstBroken n kept r
range_broken {n = n} kept u r ran taken refused = at r (first_from_Range _ u _ r (λ k. kept k ≡ false) (λ k. kept k ≡ true) ran taken refused)
  where
    at : (r : Option ℕ) → MatchOption r ((k : ℕ) → 0 ≤ k → k < n → kept k ≡ true) (λ i. (0 ≤ i) × (i < n) × (kept i ≡ false) × ((k : ℕ) → 0 ≤ k → k < i → kept k ≡ true)) → FirstBroken n kept r
    at None h = λ k. h k (omega arith)
    at (Some i) h = (h.1, h.2, λ k. h.3 k (omega arith))

-- the numbers of a range, each with its weight
total_from : (w : ℕ → ℕ) (a n : ℕ) → sum_by w (range_with_len a n) ≡ sum n (λ k. w (a + k))
unfolding sum
total_from w a zero = refl
total_from w a (suc n) =
    let z : a ≡ a + 0 = omega arith in
    sum_by-cons w a (range_with_len (a + 1) n)
    ∙ ap₂ (λ m k. m + k) (ap w z) (total_from w (a + 1) n ∙ sum_ext n (λ k. w (a + 1 + k)) (λ k. w (a + suc k)) (λ k _. let e : a + 1 + k ≡ a + suc k = omega arith in ap w e))
    ∙ sym (sum_front n (λ k. w (a + k)))

total_below : (w : ℕ → ℕ) (n : ℕ) → sum_by w (range_with_len 0 n) ≡ sum n w
total_below w n = total_from w 0 n ∙ sum_ext n (λ k. w (0 + k)) w (λ k _. ap w (zero-add k))

-- how many pass a test
passed_by : (test : ℕ → Bool) (ks : List ℕ) → length (filter test ks) ≡ sum_by (λ k. bit (test k)) ks
passed_by test [] = refl
passed_by test (k ∷ ks) = first (test k) ∙ ap (λ m. bit (test k) + m) (passed_by test ks) ∙ sym (sum_by-cons (λ k. bit (test k)) k ks)
  where
    first : (b : Bool) → length (cond b (k ∷ filter test ks) (filter test ks)) ≡ bit b + length (filter test ks)
    first true = omega arith
    first false = omega arith

-- `count` after `filter`, over the numbers below n
pub count_below : {F : Type 0} {g : Mut F (Bor ℕ × Unit {0}) Bool} {s : Filter (Range ℕ) F} {f : F} {n r : ℕ} (test : ℕ → Bool) →
    (xs : List ℕ) × Drains (filter_steps nat_range_steps g) s xs × (r ≡ length xs) → filter_source s ≡ record { start = 0; end = n } → filter_callee s ≡ f →
    ((x : ℕ) (b : Bool) (q : F) → CalledAt g f x b q → (q ≡ f) × (b ≡ test x)) → r ≡ sum n (λ k. bit (test k))
count_below {s = s} {n = n} {r = r} test ran source callee pure =
    count_from_yields_List s r ran (YieldsList-from_filter _ test (YieldsList-from_range 0 n n source (omega arith)) callee pure)
    ∙ passed_by test (range_with_len 0 n) ∙ total_below (λ k. bit (test k)) n

bit_one : (b : Bool) → eqb (bit b) 1 ≡ b
bit_one true = refl
bit_one false = refl

-- and whether their number is odd
pub odd_count : (n : ℕ) {r : ℕ} (test : ℕ → Bool) → r ≡ sum n (λ k. bit (test k)) → eqb (r % 2) 1 ≡ par n test
odd_count n {r = r} test e =
    ap (λ m. eqb m 1) (odd_mod r) ∙ bit_one (odd r) ∙ ap odd e ∙ odd_sum n (λ k. bit (test k)) ∙ par_ext n (λ k. odd (bit (test k))) test (λ k _. odd_bit (test k))

-- numbers that a closure refuses, from the last on
module _ {F B : Type 0} (g : Mut F (ℕ × Unit {0}) (Option B)) (f : F) (No : ℕ → Type 0) (refused : (x : ℕ) (q : F) → Called g f (x, tt) None q → (q ≡ f) × No x) where
  abbrev down : Rev (Range ℕ) → Option ℕ → Rev (Range ℕ) → Type 0
  down = rev_steps nat_range_steps_back

  abbrev refuses : F → ℕ → F → Type 0
  refuses p x q = Called g p (x, tt) None q

  none_passed : (xs : List ℕ) (s t u : Rev (Range ℕ)) (j : F) → Yields down s xs t → down t None u → FoldsTo refuses f xs j → (w : ℕ) → (rev_source s).start ≤ w → w < (rev_source s).end → No w
  none_passed [] s t u j y e h w lo hi = let d = subst (λ (r : Rev (Range ℕ)). down r None u) (sym y) e in absurd (omega (arith, d.1.0))
  none_passed (x ∷ xs) s t u j y e h w lo hi =
      let r = refused x h.0 h.1 in
      let d = y.1 in
      ⊎_elim
      (λ q. subst No (sym q) r.1)
      (λ ne. none_passed xs y.0 t u j y.2 e (subst (λ (p : F). FoldsTo refuses p xs j) r.0 h.2) w (omega (arith, d.0)) (omega (arith, d.1.1, d.1.2)))
      (cases_eq w x)

  abbrev nothing : Option B
  nothing = None

  none_given : (n : ℕ) (s u : FilterMap (Rev (Range ℕ)) F) → filter_map_steps down g s None u → rev_source (filter_map_source s) ≡ record { start = 0; end = n } → filter_map_callee s ≡ f → (w : ℕ) → w < n → No w
  none_given n s u st source callee w h = at st.1 st.3 st.5
    where
      low : (rev_source (filter_map_source s)).start ≤ w
      low = omega (arith, ap (λ (r : Range ℕ). r.start) source)

      high : w < (rev_source (filter_map_source s)).end
      high = omega (arith, ap (λ (r : Range ℕ). r.end) source)

      at : (o : Option ℕ) → YieldsThen down (filter_map_source s) st.0 o (filter_map_source u) →
          MatchOption o ((nothing ≡ nothing) × (filter_map_callee u ≡ st.2)) (λ x. Called g st.2 (x, tt) None (filter_map_callee u) × IsSome nothing) → No w
      at None y m = none_passed st.0 (filter_map_source s) y.0 (filter_map_source u) st.2 y.1 y.2 (subst (λ (p : F). FoldsTo refuses p st.0 st.2) callee st.4) w low high
      at (Some x) y m = absurd (both_ways false refl m.1)

  -- where `filter_map` gives nothing, it refused all
  pub all_refused : {s : FilterMap (Rev (Range ℕ)) F} (n : ℕ) → Drains (filter_map_steps down g) s [] → rev_source (filter_map_source s) ≡ record { start = 0; end = n } → filter_map_callee s ≡ f → (w : ℕ) → w < n → No w
  all_refused {s = s} n ran source callee =
      let st : filter_map_steps down g ran.1.0 None ran.0 = ran.1.2 in
      none_given n s ran.0 (subst (λ (r : FilterMap (Rev (Range ℕ)) F). filter_map_steps down g r None ran.0) (sym ran.1.1) st) source callee

-- `fold` over the numbers below n: what holds of what it has come to, before each number
module _ {F B : Type 0} {g : Mut F (B × (ℕ × Unit {0})) B} {f : F} {init : B} (n : ℕ) (I : ℕ → B → Type 0) (begins : I 0 init)
    (goes : (k : ℕ) (a b : B) (q : F) → k < n → I k a → Called g f (a, (k, tt)) b q → (q ≡ f) × I (k + 1) b) where
  abbrev turn : F × B → ℕ → F × B → Type 0
  turn p x q = Called g p.0 (p.1, (x, tt)) q.1 q.0

  held : (xs : List ℕ) (s t : Range ℕ) (p q : F × B) → Yields nat_range_steps s xs t → s.end ≡ n → s.start ≤ n → FoldsTo turn p xs q → p.0 ≡ f → I s.start p.1 → (t.end ≡ n) × (t.start ≤ n) × (q.0 ≡ f) × I t.start q.1
  held [] s t p q y e l h same i = subst (λ (r : Range ℕ). (r.end ≡ n) × (r.start ≤ n) × (q.0 ≡ f) × I r.start q.1) y
      (subst (λ (r : F × B). (s.end ≡ n) × (s.start ≤ n) × (r.0 ≡ f) × I s.start r.1) h (e, l, same, i))
  held (x ∷ xs) s t p q y e l h same i =
      let d = y.1.1 in
      let here : x < n = omega (arith, d.0, d.1) in
      let next : x + 1 ≡ y.0.start = omega (arith, d.1, d.2) in
      let low : y.0.start ≤ n = omega (arith, d.0, d.2) in
      let c = goes x p.1 h.0.1 h.0.0 here (subst (λ m. I m p.1) (sym d.1) i) (subst (λ (r : F). Called g r (p.1, (x, tt)) h.0.1 h.0.0) same h.1) in
      held xs y.0 t h.0 q y.2 (y.1.0 ∙ e) low h.2 c.0 (subst (λ m. I m h.0.1) next c.1)

  abbrev all : Range ℕ
  all = record { start = 0; end = n }

  pub fold_callable : ((k : ℕ) (a : B) → k < n → I k a → g.pre f (a, (k, tt))) → CallableAtEachTurn {P = F × B} nat_range_steps turn (λ p x. g.pre p.0 (p.1, (x, tt))) all (f, init)
  fold_callable ready = record {
    at = λ xs t q x u y h st.
        let r = held xs all t (f, init) q y refl (omega arith) h refl begins in
        let here : x < n = omega (arith, st.1.0, st.1.1, r.0) in
        subst (λ (p : F). g.pre p (q.1, (x, tt))) (sym r.2) (ready x q.1 here (subst (λ m. I m q.1) (sym st.1.1) r.3));
  }

  pub fold_held : (r : B) → (xs : List ℕ) × (q : F) × Drains nat_range_steps all xs × FoldsTo turn (f, init) xs (q, r) → I n r
  fold_held r ran =
      let end = ran.2.1 in
      let h = held ran.0 all end.0 (f, init) (ran.1, r) end.1 refl (omega arith) ran.3 refl begins in
      let last : end.0.start ≡ n = omega (arith, end.2.1.0, h.0, h.1) in
      subst (λ m. I m r) last h.3

-- what a chain gives for each number below n
given_below : {F B : Type 0} {g : Mut F (ℕ × Unit {0}) B} {s : Map (Range ℕ) F} {f : F} (n : ℕ) (h : ℕ → B) → map_source s ≡ record { start = 0; end = n } → map_callee s ≡ f →
    ((x : ℕ) (r : B) (q : F) → Called g f (x, tt) r q → (q ≡ f) × (r ≡ h x)) → YieldsList (map_steps nat_range_steps g) (λ x. x) s (map h (range_with_len 0 n))
given_below {g = g} n h source maps_by gives = YieldsList-from_map g h (YieldsList-from_range 0 n n source (omega arith)) maps_by gives

-- the sum of what is given fits, and is what they are together
module _ {F : Type 0} {g : Mut F (ℕ × Unit {0}) ℕ} {s : Map (Range ℕ) F} {f : F} (n : ℕ) (l : ℕ → ℕ) (source : map_source s ≡ record { start = 0; end = n }) (maps_by : map_callee s ≡ f)
    (gives : (x : ℕ) (r : ℕ) (q : F) → Called g f (x, tt) r q → (q ≡ f) × (r ≡ l x)) where
  pub sum_fits : (top : ℕ) → sum n l < top → EachRunFrom (map_steps nat_range_steps g) s (λ p. fold (λ a x. a + x) 0 p.items < top)
  sum_fits top most = fits_by_from_yields_list l (range_with_len 0 n) s top (given_below n l source maps_by gives) (subst (λ m. m < top) (sym (total_below l n)) most)

  pub sum_is : (r : ℕ) → (xs : List ℕ) × (⊤ → Drains (map_steps nat_range_steps g) s xs) × (r ≡ fold (λ a x. a + x) 0 xs) → r ≡ sum n l
  sum_is r ran = sum_by_from_yields_List l (range_with_len 0 n) s r ran (given_below n l source maps_by gives) ∙ total_below l n

-- the same of signed numbers, none negative
signed_front : (l : ℕ → ℕ) (a : ℕ) (ks : List ℕ) (m : ℕ) → (b : ℕ) × (fold ◌+ℤ◌ (pos a) (take m (map (λ k. pos (l k)) ks)) ≡ pos b) × (b ≤ a + sum_by l ks)
signed_front l a ks zero = (a, refl, omega arith)
signed_front l a [] (suc m) = (a, refl, omega arith)
signed_front l a (k ∷ ks) (suc m) = let r = signed_front l (a + l k) ks m in (r.0, r.1, omega (arith, sum_by-cons l k ks))

signed_all : (l : ℕ → ℕ) (a : ℕ) (ks : List ℕ) → fold ◌+ℤ◌ (pos a) (map (λ k. pos (l k)) ks) ≡ pos (a + sum_by l ks)
signed_all l a [] = let z : a ≡ a + 0 = omega arith in ap pos z
signed_all l a (k ∷ ks) = let z : a + l k + sum_by l ks ≡ a + sum_by l (k ∷ ks) = omega (arith, sum_by-cons l k ks) in signed_all l (a + l k) ks ∙ ap pos z

module _ {F : Type 0} {g : Mut F (ℕ × Unit {0}) ℤ} {s : Map (Range ℕ) F} {f : F} (n : ℕ) (l : ℕ → ℕ) (source : map_source s ≡ record { start = 0; end = n }) (maps_by : map_callee s ≡ f)
    (gives : (x : ℕ) (r : ℤ) (q : F) → Called g f (x, tt) r q → (q ≡ f) × (r ≡ pos (l x))) where
  abbrev ks : List ℕ
  ks = range_with_len 0 n

  amounts : YieldsList (map_steps nat_range_steps g) (λ x. x) s (map (λ k. pos (l k)) ks)
  amounts = given_below n (λ k. pos (l k)) source maps_by gives

  pub signed_fits : sum n l ≤ 1200000000000 → EachRunFrom (map_steps nat_range_steps g) s (λ p. FitsSigned w64 (fold ◌+ℤ◌ (pos 0) p.items))
  unfolding YieldsRun
  signed_fits most = λ p _ at.
      let so_far = YieldsList-so_far amounts p.items p.gave.0.0 (subst (λ u. Yields (map_steps nat_range_steps g) u p.items p.gave.0.0) at p.gave.0.1) in
      let b = signed_front l 0 ks (length p.items) in
      let fits : FitsSigned w64 (pos b.0) = omega (arith, ints, total_below l n) in
      subst (λ xs. FitsSigned w64 (fold ◌+ℤ◌ (pos 0) xs)) (sym so_far ∙ map-id p.items) (subst (FitsSigned w64) (sym b.1) fits)

  pub signed_is : (r : ℤ) → (xs : List ℤ) × (⊤ → Drains (map_steps nat_range_steps g) s xs) × (r ≡ fold ◌+ℤ◌ (pos 0) xs) → r ≡ pos (sum n l)
  signed_is r ran = total_from_yields_List ◌+ℤ◌ (pos 0) r ran amounts ∙ signed_all l 0 ks ∙ ap pos (zero-add (sum_by l ks) ∙ total_below l n)
