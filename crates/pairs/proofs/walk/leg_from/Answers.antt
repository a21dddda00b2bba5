-- The steps of the proof of `leg_from` that are not found by search.
use Rattle.std.proofs.Common.{true, false, sym, refl, ap, ◌∙◌}
use Rattle.road.specs.declared.street.Street.{Street}
use Rattle.road.specs.Model.{model}
use Rattle.road.proofs.Legs.{from_is}
use Rattle.pairs.proofs.walk.leg_from.Goals as goal

pub returns-then-street-at : goal.returns-then-street-at
returns-then-street-at c = record {
  by = refl;
  begins = sym (from_is (model c.args.town.now) (record { by = c.args.k; back = false }) false c.street-street.result refl c.street-street.ensures.is) ∙ c.if-street-at.true;
  forth = λ _. refl;
}

pub returns-then-street-at-2 : goal.returns-then-street-at-2
returns-then-street-at-2 c =
    let is = c.street-street.ensures.is in record {
      by = refl;
      begins = sym (from_is (model c.args.town.now) (record { by = c.args.k; back = true }) true c.street-street.result refl is) ∙ c.if-street-at-2.true;
      forth = λ e. absurd (c.if-street-at.false (ap (λ (s : Street). s.one) is ∙ e ∙ sym (ap (λ (s : Street). s.two) is) ∙ c.if-street-at-2.true));
    }
