-- What can be come to: the test for it holds just where there is a drive. Assumes nothing.
use Rattle.std.proofs.Common.{◌≡◌, ℕ, zero, suc, ◌<◌, ◌≤◌, Bool, true, false, ◌&&◌, ◌||◌, List, [], ◌∷◌, ◌++◌, sym, refl, ap, ◌∙◌, ⊎_elim, arith}
use Rattle.std.proofs.lemmas.Bool.{eqb-true, eq-eqb, cases_eq, and_parts, or_cases, or_left}
use Rattle.road.specs.Roads.{Town, Leg, Drive, stay, go, from, into}
use Rattle.road.specs.Counts.{◌⊕◌, size, one, two, Set, cut, Side}
use Rattle.road.specs.Reach.{joined, reached}
use Rattle.road.proofs.Parity.{xor_same}
use Rattle.road.proofs.Cuts.{side_cut, or_cut, leg_side}
use Rattle.road.proofs.Drives.{drive_append}

-- both ends of a street that is not cut are in the set, or neither
pub across : (t : Town) (Z : Set) (k x y : ℕ) → Side t k x y → cut t Z k ≡ false → Z x ≡ Z y
across t Z k x y s c = xor_same (Z x) (Z y) (sym (side_cut t k x y Z s) ∙ c)

-- from where a set is closed under the streets, a drive stays in the set
pub drive_closed : (t : Town) (Z : Set) → ((k : ℕ) → k < size t → cut t Z k ≡ false) →
    {v w : ℕ} {ls : List Leg} → Drive t v ls w → Z v ≡ true → Z w ≡ true
unfolding from into
drive_closed t Z closed (stay v) z = z
drive_closed t Z closed (go v w l ls h e d) z =
    drive_closed t Z closed d (sym (across t Z l.by (from t l) (into t l) (leg_side t l.by l.back) (closed l.by h)) ∙ ap Z e ∙ z)

joined_start : (t : Town) (n s : ℕ) → joined t n s s ≡ true
unfolding joined
joined_start t zero s = eq-eqb s s refl
joined_start t (suc n) s = or_left (joined t n s s) _ (joined_start t n s)

-- no street leads out of what can be come to
joined_closed : (t : Town) (n s k : ℕ) → k < n → cut t (joined t n s) k ≡ false
unfolding joined
joined_closed t zero s k h = absurd (omega arith)
joined_closed t (suc n) s k h =
    ⊎_elim (λ e. rw e (here (J s x) (J s y) (J x x) (J x y) (J y x) (J y y) (joined_start t n x) (joined_start t n y)))
    (λ ne. before (joined_closed t n s k (omega arith)) (joined_closed t n x k (omega arith)) (joined_closed t n y k (omega arith))) (cases_eq k n)
  where
    x : ℕ
    x = one t n

    y : ℕ
    y = two t n

    J : ℕ → Set
    J u v = joined t n u v

    here : (a b p q r o : Bool) → p ≡ true → o ≡ true → (a || ((a || b) && (p || r))) ⊕ (b || ((a || b) && (q || o))) ≡ false
    here a b p q r o e f = rw (e, f) (at a b q)
      where
        at : (a b q : Bool) → (a || ((a || b) && true)) ⊕ (b || ((a || b) && (q || true))) ≡ false
        at true true q = refl
        at true false true = refl
        at true false false = refl
        at false true q = refl
        at false false q = refl

    and_cut : (c a b : Bool) → a ⊕ b ≡ false → (c && a) ⊕ (c && b) ≡ false
    and_cut true a b e = e
    and_cut false a b e = refl

    before : cut t (J s) k ≡ false → cut t (J x) k ≡ false → cut t (J y) k ≡ false → cut t (joined t (suc n) s) k ≡ false
    before cs cx cy =
        or_cut (J s (one t k)) (J s (two t k)) _ _ cs
        (and_cut (J s x || J s y) _ _ (or_cut (J x (one t k)) (J x (two t k)) (J y (one t k)) (J y (two t k)) cx cy))

-- some drive from one crossing to another
abbrev Way : Town → ℕ → ℕ → Type 0
Way t v w = (ls : List Leg) × Drive t v ls w

way_on : (t : Town) (u v w : ℕ) → Way t u v → Way t v w → Way t u w
way_on t u v w p q = (p.0 ++ q.0, drive_append t p.1 q.1)

-- a street is a way between its ends
way_over : (t : Town) (k : ℕ) → k < size t → Way t (one t k) (two t k) × Way t (two t k) (one t k)
unfolding from into
way_over t k h = (
  (record { by = k; back = false } ∷ [], go (one t k) (two t k) (record { by = k; back = false }) [] h refl (stay (two t k))),
  (record { by = k; back = true } ∷ [], go (two t k) (one t k) (record { by = k; back = true }) [] h refl (stay (one t k))),
)

joined_way : (t : Town) (n s v : ℕ) → n ≤ size t → joined t n s v ≡ true → Way t s v
unfolding joined
joined_way t zero s v h j = rw (eqb-true v s j) ([], stay s)
joined_way t (suc n) s v h j =
    ⊎_elim (joined_way t n s v (omega arith))
    (λ b. over (and_parts (joined t n s x || joined t n s y) (joined t n x v || joined t n y v) b) (λ u w. joined_way t n u w (omega arith))) (or_cases (joined t n s v) _ j)
  where
    x : ℕ
    x = one t n

    y : ℕ
    y = two t n

    over : ((joined t n s x || joined t n s y) ≡ true) × ((joined t n x v || joined t n y v) ≡ true)
        → ((u w : ℕ) → joined t n u w ≡ true → Way t u w) → Way t s v
    over p ways =
        ⊎_elim (λ a. from_x (ways s x a)) (λ b. from_x (way_on t s y x (ways s y b) (way_over t n h).1)) (or_cases (joined t n s x) (joined t n s y) p.0)
      where
        from_x : Way t s x → Way t s v
        from_x w =
            ⊎_elim (λ a. way_on t s x v w (ways x v a)) (λ b. way_on t s y v (way_on t s x y w (way_over t n h).0) (ways y v b))
            (or_cases (joined t n x v) (joined t n y v) p.1)

pub reached_start : (t : Town) (s : ℕ) → reached t s s ≡ true
reached_start t s = joined_start t (size t) s

pub reached_closed : (t : Town) (s k : ℕ) → k < size t → cut t (reached t s) k ≡ false
reached_closed t s k h = joined_closed t (size t) s k h

-- what is come to has a drive there, and nothing else has
pub reached_way : (t : Town) (s v : ℕ) → reached t s v ≡ true → (ls : List Leg) × Drive t s ls v
reached_way t s v r = joined_way t (size t) s v (omega arith) r

pub drive_reached : (t : Town) (s v : ℕ) (ls : List Leg) → Drive t s ls v → reached t s v ≡ true
drive_reached t s v ls d = drive_closed t (reached t s) (reached_closed t s) d (reached_start t s)

-- marks that hold the start, are closed under the streets and hold only what can be come to are the test's
pub reached_is : (t : Town) (s : ℕ) (Z : Set) → Z s ≡ true → ((k : ℕ) → k < size t → cut t Z k ≡ false) →
    ((v : ℕ) → Z v ≡ true → reached t s v ≡ true) → (v : ℕ) → Z v ≡ reached t s v
reached_is t s Z start closed come v = same (Z v) (reached t s v) (come v) (λ r. drive_closed t Z closed (reached_way t s v r).1 start)
  where
    same : (a b : Bool) → (a ≡ true → b ≡ true) → (b ≡ true → a ≡ true) → a ≡ b
    same true b f g = sym (f refl)
    same false true f g = g refl
    same false false f g = refl
