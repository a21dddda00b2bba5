-- One more line is one more entry.
use Rattle.std.proofs.Common.{inl, inr, sym, ◌∙◌}
use Rattle.text.proofs.Gathering.{adds_nothing, adds_length, adds_crossings, adds_depot, adds_street, adds_round, adds_part}
use Rattle.text.proofs.lines.Lines.add.Goals as goal

pub returns-in-Nothing : goal.returns-in-Nothing
returns-in-Nothing c = λ alone es g. elim c.in-Nothing.is [
  | inl is ↦ rw is (adds_nothing es c.args.self.now g)
  | inr is ↦ rw is (adds_length es c.args.self.now g (rw is at (sym c.takes.ensures ∙ c.if-not-takes.false)))
]

pub returns-in-Crossings : goal.returns-in-Crossings
returns-in-Crossings c = λ alone es g. rw c.in-Crossings.is (adds_crossings es c.args.self.now c.in-Crossings.n c.set.new.place c.set.result g c.set.ensures)

pub returns-in-Depot : goal.returns-in-Depot
returns-in-Depot c = λ alone es g. rw c.in-Depot.is (adds_depot es c.args.self.now c.in-Depot.d c.set-in-Depot.new.place c.set-in-Depot.result g c.set-in-Depot.ensures)

pub returns-in_ok-extend_from_slice-in-Street : goal.returns-in_ok-extend_from_slice-in-Street
returns-in_ok-extend_from_slice-in-Street c = λ alone es g. rw c.in-Street.is (adds_street es c.args.self.now c.in-Street.street c.extend_from_slice.new.self g c.in_ok-extend_from_slice-in-Street.ensures.items)

pub returns-in-Round : goal.returns-in-Round
returns-in-Round c = λ alone es g. rw c.in-Round.is
    (adds_round es c.args.self.now c.in-Round.legs c.set-in-Round.new.place c.set-in-Round.result g (rw c.in-Round.is at (sym c.takes.ensures ∙ c.if-not-takes.false)) c.set-in-Round.ensures)

pub returns-in_ok-push-in-Part : goal.returns-in_ok-push-in-Part
returns-in_ok-push-in-Part c = λ alone es g. rw c.in-Part.is
    (adds_part es c.args.self.now c.in-Part.part c.push.new.self g (rw c.in-Part.is at (sym c.takes.ensures ∙ c.if-not-takes.false)) c.in_ok-push-in-Part.ensures.items)
