-- One more is answered, or one fewer than were read.
use Rattle.std.proofs.Common.{ℕ, List, [], map, ap, subst, ◌∙◌, arith, rules}
use Rattle.std.proofs.lemmas.List.Elements.{All-map}
use Rattle.files.specs.Answered.{Answered}
use Rattle.files.proofs.Served.{one_more, one_fewer, all_of}
use Rattle.files.proofs.answerer.Answerer.answer_each.Goals as goal
use Rattle.files.proofs.answerer.Answerer.answer_each.Goals.{in-Some, in_default}

pub loop-name-preserved : goal.loop-name-preserved
loop-name-preserved g c =
    let P : List ℕ → Type 0 = Answered (g.R.Texts.holds c.args.self.now.rt.now) (g.A.Answer.answers c.args.self.now.answer.now (map (λ o. o.now) c.args.self.now.options.now)) in
    let few = c.loop-name.invariant.few in
    elim c.match-branch-2.branch [
      | in-Some w ↦ let e = ap (λ t. t.answered) w.tally-is ∙ w.add.ensures.answered in record {
        few = omega (arith, few, e);
        all = one_more (λ x. P x.now) c.args.names.now _ _ c.loop-name.name-index (record { ref_ptr = (0, 0); now = [] }) c.loop-name-test.true e c.loop-name.invariant.all
            (subst P c.named.ensures (c.in_ok-reply.ensures (search rules)));
      }
      | in_default w ↦ let e = ap (λ t. t.answered) w.tally-is in record {
        few = omega (arith, few, e);
        all = one_fewer (λ x. P x.now) c.args.names.now _ _ _ few e;
      }
    ]

pub returns : goal.returns
returns g c e =
    let P : List ℕ → Type 0 = Answered (g.R.Texts.holds c.args.self.now.rt.now) (g.A.Answer.answers c.args.self.now.answer.now (map (λ o. o.now) c.args.self.now.options.now)) in
    All-map P (λ x. x.now) c.args.names.now
    (all_of (λ x. P x.now) c.args.names.now c.loop-name.tally.answered c.loop-name.name-index c.loop-name.auto.name-index-end c.loop-name-test.false e c.loop-name.invariant.all)
