-- The steps of the proof of `add_street` that are not found by search.
use Rattle.std.proofs.Common.{◌≡◌, ◌<◌, true, false, vec_items, sym, ap, ◌∙◌, subst, arith}
use Rattle.std.proofs.lemmas.Result.{on_ok_weaker}
use Rattle.road.specs.Counts.{one, two}
use Rattle.road.specs.Model.{model}
use Rattle.road.proofs.Models.{size_model}
use Rattle.join.specs.Borders.{Pushed}
use Rattle.join.proofs.Gathering.{stars_loop, stars_both}
use Rattle.join.proofs.stars.add_street.Goals as goal

pub returns-then-street : goal.returns-then-street
returns-then-street c =
    let t = model c.args.town.now in
    let is = c.street-street.ensures.is in
    stars_loop t c.args.k c.args.town.now.crossings (vec_items c.args.stars.now) c.requires.before (sym (ap (λ s. s.one) is) ∙ c.if-street.true ∙ ap (λ s. s.two) is)

pub returns : goal.returns
returns c =
    let t = model c.args.town.now in
    let k = c.args.k in
    let n = c.args.town.now.crossings in
    let is = c.street-street.ensures.is in
    let x : c.street-street.result.one ≡ one t k = ap (λ s. s.one) is in
    let y : c.street-street.result.two ≡ two t k = ap (λ s. s.two) is in
    let within = c.street-street.ensures.within in
    let rows = vec_items c.args.stars.now in
    let rows1 = vec_items c.add_leg.new.stars in
    let rows2 = vec_items c.add_leg-2.new.stars in
    on_ok_weaker c.add_leg-2.result
    (λ p. stars_both t k n rows c.requires.before (omega (arith, c.requires.below, size_model c.args.town.now)) (λ e. c.if-street.false (x ∙ e ∙ sym y))
    (subst (λ u. u < n) x within.0) (subst (λ u. u < n) y within.1) rows1 rows2
    (subst (λ u. Pushed rows u (record { by = k; back = false }) rows1) x c.in_ok-add_leg.ensures) (subst (λ u. Pushed rows1 u (record { by = k; back = true }) rows2) y p))
    c.add_leg-2.ensures
