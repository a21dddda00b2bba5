-- The step of the proof of `is_odd` that is not found by search.
use Rattle.std.proofs.Common.{ℕ, get_or, sym, ap, ◌∙◌, rules, tests}
use Rattle.road.specs.Roads.{street}
use Rattle.road.specs.Counts.{par}
use Rattle.road.proofs.Models.{size_model}
use Rattle.road.proofs.Ranges.{count_below, odd_count}
use Rattle.sheet.specs.Sheet.{no_part, leads_out}
use Rattle.sheet.specs.Model.{parts_of, town_of}
use Rattle.sheet.proofs.Borders.{ways_odd}
use Rattle.sheet.proofs.parts.Parts.is_odd.Goals as goal

pub returns : goal.returns
returns c =
    let t = town_of c.args.self.now in
    let ms = (get_or (parts_of c.args.self.now) c.args.i no_part).marks in
    let out = λ (k : ℕ). leads_out ms (street t k) in
    odd_count _ out (count_below out c.count.ensures.ran c.filter-out.ensures.source c.filter-out.ensures.closure (λ x b q k. search (rules, tests)))
    ∙ ap (λ n. par n out) (sym (size_model c.args.self.now.town.now)) ∙ ways_odd t ms
