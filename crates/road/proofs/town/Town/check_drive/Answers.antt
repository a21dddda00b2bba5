-- The steps of the proof of `check_drive` that are not found by search.
use Rattle.std.proofs.Common.{Option, subst}
use Rattle.road.specs.declared.fault.Fault.{Fault}
use Rattle.road.specs.Numbers.{legs_in}
use Rattle.road.specs.Faults.{Finds}
use Rattle.road.specs.Model.{model, marked}
use Rattle.road.proofs.Faults.{fault_streets}
use Rattle.road.proofs.town.Town.check_drive.Goals as goal

pub returns : goal.returns
returns c =
    let t = model c.args.self.now in
    let d = c.in_ok-driven.driven in
    subst (λ (o : Option Fault). Finds o (λ _. Unit {0}) c.check_driven.result)
    (fault_streets t c.args.start c.args.end (marked c.args.required.now) (legs_in c.args.legs.now) d.at d.marks c.in_ok-driven.ensures.0
    c.in_ok-driven.ensures.1 c.if-driven-end.false) c.check_driven.ensures
