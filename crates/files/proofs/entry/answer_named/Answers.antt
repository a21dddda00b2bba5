-- Each name is answered, and nothing else is asked.
use Rattle.std.proofs.Common.{map, string_bytes, ap}
use Rattle.files.proofs.Served.{all_answered}
use Rattle.files.proofs.entry.answer_named.Goals as goal

pub returns-in-None : goal.returns-in-None
returns-in-None g c t =
    let known = map (λ o. o.now) c.args.program.now.options.now in
    let options = map (λ o. o.now) c.in_ok-arguments.arguments.options.items in
    let names = map (λ o. o.now) c.in_ok-arguments.arguments.names.items in
    let asked = map (λ o. o.now) c.as_slice.result.now in
    let each = map (λ o. o.now) c.as_slice-in-None.result.now in
    all_answered (g.R.Texts.holds c.args.rt.now) (g.A.Answer.answers c.args.answer.now) known (map string_bytes c.args.args.now) options names asked each c.unknown.result
    c.unknown.ensures c.in-None.is c.in_ok-arguments.ensures.options c.in_ok-arguments.ensures.names
    (ap (map (λ o. o.now)) c.as_slice.ensures.value) (ap (map (λ o. o.now)) c.as_slice-in-None.ensures.value) (c.in_ok-answer_all-in-None.ensures t)
