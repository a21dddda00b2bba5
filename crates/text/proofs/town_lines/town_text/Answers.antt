-- The numbers of a town are short enough for its text to be read back.
use Rattle.std.proofs.Common.{◌≡◌, ap, ◌∙◌, string_bytes, arith}
use Rattle.std.proofs.lemmas.Grind.{common_steps}
use Rattle.road.specs.Model.{model}
use Rattle.text.specs.Format.{told_town}
use Rattle.text.specs.Towns.{town_text as text_of}
use Rattle.text.proofs.ShortTowns.{short_town}
use Rattle.text.proofs.TownBack.{town_read_back}
use Rattle.text.proofs.town_lines.town_text.Goals as goal

pub returns-clause-read_back : goal.returns-clause-read_back
returns-clause-read_back c =
    let t = c.args.town.now in
    let e : string_bytes c.write_streets.new.out ≡ text_of (model t) t.depot = grind (arith, common_steps) in
    ap told_town e ∙ town_read_back (model t) t.depot (short_town t)
