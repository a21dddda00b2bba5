-- Every sound town has extra drives and a sheet that weighs twice as much. Assumes nothing.
use Rattle.std.proofs.Common.{◌≡◌, ℕ, ◌*◌, ◌%◌, ◌<◌, ◌≤◌, Bool, true, false, ◌⊎◌, refl, ap, ◌∙◌, inl, inr, ⊎_elim, arith}
use Rattle.std.proofs.lemmas.Bool.{both_ways, cases_lt}
use Rattle.road.specs.Roads.{Town, street, Sound}
use Rattle.road.specs.Counts.{◌⊕◌, bit, odd, size, one, two, Set, degree, Side, forth, back, all}
use Rattle.road.proofs.Parity.{xor_self, xor_twice, odd_add, odd_bit, odd_double, odd_mod}
use Rattle.join.specs.Joins.{◌⊞◌, single, out, Joins, once, cost, Least}
use Rattle.join.specs.Odd.{streets_of}
use Rattle.join.specs.Extra.{Inside, counts, extra_length, ExtraDrives}
use Rattle.join.proofs.Joins.{degree_odd, out_xor, out_ext, join_on, join_once, side_join}
use Rattle.join.proofs.Cost.{cost_double}
use Rattle.join.proofs.Linear.{linear_once}
use Rattle.join.proofs.Pairing.{drive_streets}
use Rattle.join.proofs.Search.{LeastJoin, best}
use Rattle.join.proofs.Pricing.{Priced, least_priced}

-- with extra drives to the depot, all degrees are even
pub even_counts : (t : Town) (r : ℕ) (K : Set) → Joins t (once t all r) r K → (v : ℕ) → degree t (counts K) v % 2 ≡ 0
even_counts t r K joins v =
    let c = counts K in
    odd_mod (degree t c v) ∙ ap bit (degree_odd t c v ∙ out_ext t (λ k. odd (c k)) (all ⊞ K) (single v) parity ∙ none)
  where
    parity : (k : ℕ) → k < size t → odd (counts K k) ≡ (all ⊞ K) k
    parity k _ = odd_add 1 (bit (K k)) ∙ ap (λ z. true ⊕ z) (odd_bit (K k))

    none : out t (all ⊞ K) (single v) ≡ false
    none =
        let a = out t all (single v) in
        out_xor t all K (single v) ∙ ap (λ z. a ⊕ z) (joins (single v) ∙ xor_twice a (single v r)) ∙ xor_self a

module _ (t : Town) (depot : ℕ) (sound : Sound t depot) where
  inside : Inside t
  inside = sound.inside

  -- all streets once, from the depot
  abbrev T : Set → Bool
  T = once t all depot

  -- lengths in half metres
  abbrev l : ℕ → ℕ
  l k = 2 * (street t k).long

  -- a least join, or none
  abbrev Choice : ℕ → Type 0
  Choice u = LeastJoin t T l u ⊎ (u < t.crossings → (J : Set) → Joins t T u J → ⊥)

  -- found by search
  choice : (u : ℕ) → Choice u
  choice u = ⊎_elim
      (λ h. ⊎_elim inl (λ s. inr (λ _. s)) (best t T (linear_once t all depot inside sound.home) inside l u h))
      (λ h. inr (λ g. absurd (omega arith)))
      (cases_lt u t.crossings)

  -- what a choice says
  in_of : (u : ℕ) → Choice u → Bool
  in_of u (inl c) = true
  in_of u (inr c) = false

  set_of : (u : ℕ) → Choice u → Set
  set_of u (inl c) = c.0
  set_of u (inr c) = λ _. false

  joins_of : (u : ℕ) (c : Choice u) → in_of u c ≡ true → Joins t T u (set_of u c)
  unfolding in_of set_of
  joins_of u (inl c) e = c.1
  joins_of u (inr c) e = absurd (both_ways false refl e)

  low_of : (u : ℕ) (c : Choice u) (J : Set) → in_of u c ≡ true → Joins t T u J → cost t l (set_of u c) ≤ cost t l J
  unfolding in_of set_of
  low_of u (inl c) J e = c.2 J
  low_of u (inr c) J e = absurd (both_ways false refl e)

  in_from : (u : ℕ) (c : Choice u) (J : Set) → u < t.crossings → Joins t T u J → in_of u c ≡ true
  unfolding in_of
  in_from u (inl c) J h j = refl
  in_from u (inr c) J h j = absurd (c h J j)

  -- the crossings with a join, their least joins and costs
  In : Set
  In u = in_of u (choice u)

  K : ℕ → Set
  K u = set_of u (choice u)

  f : ℕ → ℕ
  f u = cost t l (K u)

  -- every street can be come to
  come : (k : ℕ) → k < size t → (J : Set) × Joins t T (one t k) J
  come k h =
      let d = sound.joined k h in
      (all ⊞ streets_of d.0, join_on t T depot (one t k) all (streets_of d.0) (join_once t all depot) (drive_streets t depot (one t k) d.0 d.1))

  -- they are least
  least : Least t T In l f K
  unfolding In K f
  least = record { ends = ends; joins = λ u e. joins_of u (choice u) e; costs = λ u e. refl; low = λ u J e. low_of u (choice u) J e }
    where
      ends : (k x y : ℕ) → k < size t → Side t k x y → in_of y (choice y) ≡ true
      ends k x y h forth =
          let a = come k h in
          let j = join_on t T (one t k) (two t k) a.0 (single k) a.1 (side_join t k (one t k) (two t k) h forth) in
          in_from (two t k) (choice (two t k)) (a.0 ⊞ single k) (inside k h).1 j
      ends k x y h back = let a = come k h in in_from (one t k) (choice (one t k)) a.0 (inside k h).0 a.1

  -- the depot is one of them
  at_home : In depot ≡ true
  unfolding In
  at_home = in_from depot (choice depot) all sound.home (join_once t all depot)

  -- their sheet
  priced : Priced t l (f depot) (3 * t.crossings)
  priced = least_priced t inside depot sound.home In at_home K l f (λ _. false) least (λ k h. odd_double (street t k).long)

  -- with the extra drives, all degrees are even
  evened : (v : ℕ) → degree t (counts (K depot)) v % 2 ≡ 0
  evened = even_counts t depot (K depot) (least.joins depot at_home)

  -- they are half as long as the price
  length_of : f depot ≡ 2 * extra_length t (K depot)
  unfolding f
  length_of = cost_double t (K depot)

-- the theorem
pub extra_drives : ExtraDrives
extra_drives t depot sound =
    let r = priced t depot sound in (
      K t depot sound depot,
      r.parts,
      evened t depot sound,
      record { odd = r.odds; bears = r.bears },
      r.weigh ∙ length_of t depot sound,
      omega (arith, r.few),
    )
