-- A search over the chunks of a list. Assumes nothing.
use Rattle.std.proofs.Common.{◌≡◌, ℕ, ◌+◌, ◌*◌, ◌/◌, ◌<◌, ◌≤◌, Bool, true, false, not, List, length, get_or, Option, Some, None, MatchOption, IfSome, IsSomeAnd, ⊎_elim, subst, sym, ap, ◌∙◌, arith}
use Rattle.std.proofs.iter.runs.Made.{at-is}
use Rattle.std.proofs.Math.Nat.{le-div_iff_mul-le}
use Rattle.std.specs.List.{IsSubsliceAt}
use Rattle.std.proofs.lemmas.Option.{slice_get_cases}
use Rattle.std.specs.Iterator.Runs.{AllItemsGive, EveryRun, IsChunksExactRun, IsFirstToGive, SomeRun, Run, CallKeepsClosure}
use Rattle.std.specs.Slice.Iter.{chunks_exact_rest, chunks_exact_size, chunks_exact_steps}
use denote.Param.Members.{Mut, Called}
use denote.Ref.{Bor}
use Rattle.road.proofs.First.{FirstBroken}

-- `position` over the chunks of m numbers, of the first whose first number breaks a rule
pub chunk_broken : {F : Type 0} {g : Mut F (Bor (List ℕ) × Unit {0}) Bool} {f : F} {s : _} (m : ℕ) (xs : List ℕ) (kept : ℕ → Bool) (r : Option ℕ) → 0 < m → chunks_exact_rest s ≡ xs → chunks_exact_size s ≡ m →
    EveryRun (chunks_exact_steps {A = ℕ}) (λ p. 0 < chunks_exact_size p.from → IsChunksExactRun p (chunks_exact_size p.from) (chunks_exact_rest p.from)) →
    SomeRun chunks_exact_steps s (λ u. MatchOption r ((u.whole ≡ true) × AllItemsGive u g f false) (λ i. (u.len ≡ i + 1) × IsFirstToGive u g f true false i)) →
    ((x : Bor (List ℕ)) (b : Bool) (q : F) → Called g f (x, tt) b q → (q ≡ f) × (b ≡ not (kept (get_or x.now 0 0)))) → FirstBroken (length xs / m) (λ i. kept (get_or xs (i * m) 0)) r
chunk_broken {g = g} {f = f} {s = s} m xs kept r some rest size every ran gives = at r ran.2
  where
    u : Run (chunks_exact_steps {A = ℕ})
    u = ran.0

    chunks : IsChunksExactRun u m xs
    chunks = subst (λ n. IsChunksExactRun u n xs) (ap chunks_exact_size ran.1 ∙ size) (subst (λ ys. IsChunksExactRun u (chunks_exact_size u.from) ys) (ap chunks_exact_rest ran.1 ∙ rest) (every u u.seen (subst (λ n. 0 < n) (sym (ap chunks_exact_size ran.1 ∙ size)) some)))

    keeps : CallKeepsClosure g f
    keeps a b q e = (gives a.0 b q e).0

    -- what was answered at the chunk of place k
    answered : (k : ℕ) (b : Bool) → IsSomeAnd (u.at k) (λ x. Called g f (x, tt) b f) → kept (get_or xs (k * m) 0) ≡ not b
    answered k b = go (u.at k) (chunks.2 k)
      where
        go : (o : Option (Bor (List ℕ))) → IfSome o (λ x. (length x.now ≡ m) × (k * m + m ≤ length xs) × IsSubsliceAt m xs (k * m) x.now) → IsSomeAnd o (λ x. Called g f (x, tt) b f) → kept (get_or xs (k * m) 0) ≡ not b
        go None c h = absurd h
        go (Some x) c h = let first = c.2.2 0 0 some in let e = (gives x b f h).1 in grind (arith, first, e)

    at : (r : Option ℕ) → MatchOption r ((u.whole ≡ true) × AllItemsGive u g f false) (λ i. (u.len ≡ i + 1) × IsFirstToGive u g f true false i) → FirstBroken (length xs / m) (λ i. kept (get_or xs (i * m) 0)) r
    at None h = λ k l. answered k false (⊎_elim (λ w. there (u.at k) w.0 (at-is u k ∙ w.2) (h.1 keeps k)) (λ past. absurd (omega (arith, chunks.1 h.0, u.long, past.0))) (slice_get_cases u.items k).1)
      where
        there : (o : Option (Bor (List ℕ))) (x : Bor (List ℕ)) → o ≡ Some x → IfSome o (λ x. Called g f (x, tt) false f) → IsSomeAnd o (λ x. Called g f (x, tt) false f)
        there o x e c = rw e (rw e at c)
    at (Some i) h =
        let d = h.1 keeps in
        let all = (le-div_iff_mul-le some).1 chunks.0 in
        (omega (arith, h.0, all), answered i true d.0, λ j l. answered j false (d.1 j l))
