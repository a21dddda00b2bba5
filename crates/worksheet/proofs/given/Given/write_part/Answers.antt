-- As many streets lead out as are named.
use Rattle.std.proofs.Common.{◌≡◌, ◌++◌, length, string_bytes, OnOk, ap, subst, ◌∙◌}
use Rattle.road.specs.Model.{model}
use Rattle.sheet.specs.Sheet.{ways_out}
use Rattle.worksheet.specs.Model.{part_of}
use Rattle.worksheet.specs.Worksheet.{streets_out, crossings_text, out_text, weight_text}
use Rattle.worksheet.proofs.Ticked.{out_is}
use Rattle.worksheet.proofs.Writing.{three_pieces}
use Rattle.worksheet.proofs.given.Given.write_part.Goals as goal

pub returns : goal.returns
returns c =
    let t = model c.args.self.now.town.now in
    let p = part_of c.args.part.now in
    let r = c.write_weight.result in
    let u = string_bytes c.write_streets_out.new.out in
    let v = string_bytes c.write_weight.new.out in
    let n : c.len.result ≡ length c.in_ok-streets.streets.items = c.len.ensures ∙ c.in_ok-streets.streets.ok.0 in
    let out : c.len.result ≡ ways_out p.marks t.streets = n ∙ ap length c.in_ok-streets.ensures ∙ out_is t p in
    three_pieces r (string_bytes c.args.out.now) (crossings_text t c.args.i p) (out_text (streets_out t p)) (weight_text (ways_out p.marks t.streets) p.weight) (string_bytes c.write_crossings.new.out) u v
    c.in_ok-write_crossings.ensures
    (c.in_ok-write_streets_out.ensures ∙ ap (λ ks. string_bytes c.write_crossings.new.out ++ out_text ks) (c.as_slice.ensures.value ∙ c.in_ok-streets.ensures))
    (subst (λ m. OnOk r (v ≡ u ++ weight_text m p.weight)) out c.write_weight.ensures)
