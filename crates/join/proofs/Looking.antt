-- What a turn of a pass finds. Assumes nothing.
use Rattle.std.proofs.Common.{◌≡◌, ℕ, ◌<◌, ◌≤◌, Bool, true, false, sym, ap, ◌∙◌, subst, ap₂, arith}
use Rattle.road.specs.Roads.{Town}
use Rattle.road.specs.Counts.{size, one, two, Set, cut, Side, forth}
use Rattle.road.proofs.Models.{size_model}
use Rattle.road.proofs.Cuts.{side_turn}
use Rattle.join.specs.declared.level.Level.{Level}
use Rattle.join.specs.declared.partition.Classes.{Classes}
use Rattle.join.specs.declared.prices.Prices.{Prices}
use Rattle.join.specs.Joins.{◌⊞◌, single, Zero, Class, Room}
use Rattle.join.specs.Weights.{inner, outer}
use Rattle.join.specs.Problems.{town_in, start_in, reached_in}
use Rattle.join.specs.Prices.{extra_in}
use Rattle.join.specs.Classes.{Classed, Merged, class_in, way_in}
use Rattle.join.specs.Potentials.{Cheaper, Lowest, slack, Tightest}
use Rattle.join.specs.Turns.{lengths_at, potential_at, Pass, Charged}
use Rattle.join.proofs.StreetSets.{ends_below}
use Rattle.join.proofs.Uniting.{class_is, class_way}
use Rattle.join.proofs.Stages as stages

module _ (q : Prices) (v : Level) (c : Classes) (b : ℕ) (s : Pass q v) (cs : Classed (town_in q.problem) (lengths_at v) c)
    (m : Merged (town_in q.problem) (lengths_at v) c q.problem.streets.town.now.count) (low : Lowest (reached_in q.problem) (potential_at v) b) (hb : b < 100) where
  abbrev t : Town
  t = town_in q.problem

  abbrev T : Set → Bool
  T = start_in q.problem

  abbrev In : Set
  In = reached_in q.problem

  abbrev l : ℕ → ℕ
  l = lengths_at v

  abbrev g : ℕ → ℕ
  g = potential_at v

  abbrev K : ℕ → Set
  K = extra_in q

  the_class : Class t l b (class_in c b)
  the_class = class_is t l c b (ends_below q.problem.streets.town.now) cs (λ k h. m k (omega (arith, size_model q.problem.streets.town.now))) hb

  inside : (k : ℕ) → k < q.problem.streets.town.now.count → k < size t
  inside k h = omega (arith, size_model q.problem.streets.town.now)

  -- no street leads out, and the set for b has a street with a length
  pub inside_better : ((k : ℕ) → k < size (town_in q.problem) → cut (town_in q.problem) (class_in c b) k ≡ false) → (k x y : ℕ) → k < q.problem.streets.town.now.count → extra_in q b k ≡ true → 0 < lengths_at v k →
      x ≡ one (town_in q.problem) k → y ≡ two (town_in q.problem) k → (H R J : Set) → H ≡ (extra_in q b ⊞ (way_in c b ⊞ way_in c x)) ⊞ single k → R ≡ way_in c b ⊞ way_in c y → J ≡ H ⊞ R →
      Cheaper (town_in q.problem) (start_in q.problem) (reached_in q.problem) (lengths_at v) (potential_at v) b J
  inside_better none k x y h own pos ex ey H R J eH eR eJ =
      let h' = inside k h in
      let sd : Side t k x y = subst (λ u. Side t k u y) (sym ex) (subst (λ u. Side t k (one t k) u) (sym ey) forth) in
      let in_x = stages.all_in t T In l g K s.level b (class_in c b) the_class low none x (ends_x h' sd) in
      let in_y = stages.all_in t T In l g K s.level b (class_in c b) the_class low none y (ends_y h' sd) in
      let wx = class_way t l c b x cs hb in_x in
      let wy = class_way t l c b y cs hb in_y in
      subst (Cheaper t T In l g b) (sym (eJ ∙ ap₂ (λ A B. A ⊞ B) eH eR))
      (stages.better_loop t T In l g K s.level b (class_in c b) the_class low k x y
      (way_in c b ⊞ way_in c x) (way_in c b ⊞ way_in c y) h' sd own pos wx.0 wx.1 wy.0 wy.1)
    where
      ends_x : k < size t → Side t k x y → In x ≡ true
      ends_x h' sd = s.level.ends k x y h' sd

      ends_y : k < size t → Side t k x y → In y ≡ true
      ends_y h' sd = s.level.ends k y x h' (side_turn t k x y sd)

  -- and it has none, where b has a potential
  pub inside_free : Zero (town_in q.problem) (lengths_at v) (extra_in q b) → 0 < potential_at v b → (J : Set) → J ≡ extra_in q b →
      Cheaper (town_in q.problem) (start_in q.problem) (reached_in q.problem) (lengths_at v) (potential_at v) b J
  inside_free z some J e = subst (Cheaper t T In l g b) (sym e) (stages.better_free t T In l g K s.level b (class_in c b) the_class low z some)

  -- and where b has none, none is left
  pub inside_done : potential_at v b ≡ 0 → ((k : ℕ) → k < size (town_in q.problem) → cut (town_in q.problem) (class_in c b) k ≡ false) →
      (u : ℕ) → reached_in q.problem u ≡ true → potential_at v u ≡ 0
  inside_done nothing none = stages.done t T In l g K s.level b (class_in c b) the_class low nothing none

  module _ (Z : Set) (eZ : Z ≡ class_in c b) where
    class_Z : Class t l b Z
    class_Z = subst (Class t l b) (sym eZ) the_class

    -- the set for b has a street out
    pub look_better : (k x y : ℕ) → (k < q.problem.streets.town.now.count) × (extra_in q b k ≡ true) × (cut (town_in q.problem) Z k ≡ true) → x ≡ inner (town_in q.problem) Z k → y ≡ outer (town_in q.problem) Z k →
        (J : Set) → J ≡ (extra_in q b ⊞ (way_in c b ⊞ way_in c x)) ⊞ single k → Cheaper (town_in q.problem) (start_in q.problem) (reached_in q.problem) (lengths_at v) (potential_at v) y J
    look_better k x y d ex ey J eJ =
        let dr = stages.exit_is t Z (K b) k x y (inside k d.0) d.1 d.2 ex ey in
        let w = class_way t l c b x cs hb (sym (ap (λ f. f x) eZ) ∙ dr.inside) in
        subst (Cheaper t T In l g y) (sym eJ)
        (stages.better_over t T In l g K s.level b Z class_Z low k x y (way_in c b ⊞ way_in c x) dr w.0 w.1)

    -- there is room
    pub look_room : Room (town_in q.problem) (lengths_at v) (potential_at v) b Z 1
    look_room k x y h sd px py = omega (arith, stages.room_two t T In l g K s.level b Z class_Z low k x y h sd px py)

    -- the class is charged
    pub look_charge : (k : ℕ) → ((j : ℕ) → j < size (town_in q.problem) → cut (town_in q.problem) Z j ≡ true → extra_in q b j ≡ false) →
        Tightest (town_in q.problem) (lengths_at v) (potential_at v) b Z q.problem.streets.town.now.count k → 1 ≤ slack (town_in q.problem) (lengths_at v) (potential_at v) b Z k →
        Charged (town_in q.problem) (start_in q.problem) (reached_in q.problem) (lengths_at v) (potential_at v) (extra_in q) Z (slack (town_in q.problem) (lengths_at v) (potential_at v) b Z k) b
    look_charge k clear tight some = record {
      stage = stages.stage t T In l g K s.level b Z class_Z low (slack t l g b Z k)
          (stages.room_of t l g b Z (slack t l g b Z k) look_room (λ j h u. tight.least j (omega (arith, size_model q.problem.streets.town.now)) u)) clear;
      class = class_Z;
      lowest = low;
      some = some;
      attained = (k, tight.below, tight.cuts, stages.slack_at t T In l g K s.level b Z class_Z low k tight.below tight.cuts);
    }
