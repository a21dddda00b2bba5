-- A circuit from what was come to outside, or a street that is alone. Assumes nothing.
use Rattle.std.proofs.Common.{◌≡◌, ℕ, ◌<◌, true, sym, ap, ◌∙◌, subst}
use Rattle.road.specs.Roads.{Town}
use Rattle.road.specs.Counts.{size, Set, cut}
use Rattle.road.specs.Model.{marked}
use Rattle.join.specs.declared.circuit.Circuit.{Circuit}
use Rattle.join.specs.declared.component.Component.{Component}
use Rattle.join.specs.Joins.{Joins, at}
use Rattle.join.specs.Exchange.{Exit}
use Rattle.join.specs.Weights.{inner, outer}
use Rattle.join.specs.Components.{crossings_in, path_in, Grown, Closed}
use Rattle.join.specs.Circuits.{Closes, outside, Second, Lone}
use Rattle.join.proofs.Stages.{exit_is}
use Rattle.join.proofs.Circuits.{outside_free}

module _ (t : Town) (Z J B A : Set) (k y : ℕ) (d : Component) (ey : y ≡ outer t Z k) (eA : (i : ℕ) → i < size t → A i ≡ outside t Z J B i)
    (f : Grown t A d) (from : d.from ≡ y) (w : Closed t A d.marks (size t)) where
  -- no second street out leads there
  pub close_lone : ((i : ℕ) → i < size t → Second t Z J (crossings_in d) k i → ⊥) → Lone t Z J B k (crossings_in d)
  close_lone none = record {
    start = ap (crossings_in d) (sym ey ∙ sym from) ∙ f.base;
    closed = λ i hi o. w i hi (eA i hi ∙ o);
    joined = λ u m. (path_in d u, subst (λ v. Joins t (at v) u (path_in d u)) (from ∙ ey) (f.leads u m), λ i hi o. sym (eA i hi) ∙ f.by u i m o);
    alone = none;
  }

  -- a second one does
  pub close_circuit : (c : Circuit) (j : ℕ) → c.out.street ≡ k → k < size t → J k ≡ true → cut t Z k ≡ true → c.out.inner ≡ inner t Z k → c.out.outer ≡ y →
      c.back.street ≡ j → j < size t → Second t Z J (crossings_in d) k j → c.back.inner ≡ inner t Z j → c.back.outer ≡ outer t Z j →
      marked c.far ≡ path_in d c.back.outer → (c.out.inner < 100) × (c.out.outer < 100) × (c.back.inner < 100) → Closes t Z J B c
  close_circuit c j ek h own cuts ex e ej h₂ s ex₂ ey₂ ef below = record {
    out = subst (λ i. Exit t Z J i c.out.inner c.out.outer) (sym ek) (exit_is t Z J k c.out.inner c.out.outer h own cuts ex (e ∙ ey));
    back = subst (λ i. Exit t Z J i c.back.inner c.back.outer) (sym ej) (exit_is t Z J j c.back.inner c.back.outer h₂ s.own s.cuts ex₂ ey₂);
    apart = λ q. s.other (sym ej ∙ sym q ∙ ek);
    outside = subst (Joins t (at c.out.outer) c.back.outer) (sym ef) (subst (λ v. Joins t (at v) c.back.outer (path_in d c.back.outer)) (from ∙ sym e) (f.leads c.back.outer in_y));
    free = λ i hi o. outside_free t Z J B i (sym (eA i hi) ∙ f.by c.back.outer i in_y (sym (ap (λ g. g i) ef) ∙ o));
    below = below;
  }
    where
      in_y : crossings_in d c.back.outer ≡ true
      in_y = ap (crossings_in d) ey₂ ∙ s.ends
