-- One more line is read, and is no longer left.
use Rattle.std.proofs.Common.{◌≡◌, [], ◌∷◌, ◌++◌, length, Err, refl, rules, sym, ◌∙◌}
use Rattle.std.proofs.lemmas.List.{length_push}
use Rattle.std.proofs.lemmas.Iterator.Consumers.{YieldsList-turn, YieldsList-end}
use Rattle.text.proofs.Telling.{lines_yielded, from_line, next_line, wrong_line, all_lines}
use Rattle.text.proofs.lines.Lines.read.Goals as goal

pub loop-i-preserved : goal.loop-i-preserved
loop-i-preserved c =
    let text = c.args.text.now in
    let t = YieldsList-turn (lines_yielded text (cc) (cc) (cc) (cc)) c.loop-i.yielded _ c.loop-i.yielded_by _ _ _ c.in-Some.is c.next.ensures.steps in
    let e = from_line c.args.alone c.loop-i.invariant.0 text _ (length (c.loop-i.yielded ++ (c.in-Some.i, c.in-Some.line) ∷ [])) _ _ _ (length_push _ _) t c.loop-i.invariant.2 in
    next_line c.args.alone c.read_line.new.self _ _ _ _ c.read_line.result (c.read_line.ensures c.args.alone c.loop-i.invariant.0 c.loop-i.invariant.1) e (sym c.at_line.ensures ∙ c.in_ok-at_line.was)

pub returns-in_err-at_line : goal.returns-in_err-at_line
returns-in_err-at_line c =
    let text = c.args.text.now in
    let t = YieldsList-turn (lines_yielded text (cc) (cc) (cc) (cc)) c.loop-i.yielded _ c.loop-i.yielded_by _ _ _ c.in-Some.is c.next.ensures.steps in
    let e = from_line c.args.alone c.loop-i.invariant.0 text _ _ _ _ _ refl t c.loop-i.invariant.2 in
    let is : c.from_residual.result ≡ Err c.in_err-at_line.field-0.0 = search rules in
    rw is (wrong_line c.args.alone c.read_line.new.self _ _ _ _ c.read_line.result c.in_err-at_line.field-0.0 (c.read_line.ensures c.args.alone c.loop-i.invariant.0 c.loop-i.invariant.1) e (sym c.at_line.ensures ∙ c.in_err-at_line.was))

pub returns : goal.returns
returns c =
    let text = c.args.text.now in
    let t = YieldsList-end (lines_yielded text (cc) (cc) (cc) (cc)) c.loop-i.yielded _ c.loop-i.yielded_by _ _ c.in-None.is c.next.ensures.steps in
    all_lines c.args.alone c.loop-i.invariant.0 c.loop-i.lines text _ _ _ c.loop-i.invariant.1 t.1 c.loop-i.invariant.2
