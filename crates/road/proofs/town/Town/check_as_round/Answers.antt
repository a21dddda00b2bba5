-- The steps of the proof of `check_as_round` that are not found by search.
use Rattle.std.proofs.Common.{true, refl, replicate, Option, subst, arith}
use Rattle.road.specs.declared.fault.Fault.{Fault}
use Rattle.road.specs.Numbers.{legs_in}
use Rattle.road.specs.Faults.{Finds}
use Rattle.road.specs.Model.{model}
use Rattle.road.proofs.Models.{size_model}
use Rattle.road.proofs.Faults.{fault_all}
use Rattle.road.proofs.town.Town.check_as_round.Goals as goal

pub returns : goal.returns
returns c =
    let t = c.args.self.now in
    subst (λ (o : Option Fault). Finds o (λ _. Unit {0}) c.check_drive.result)
    (fault_all (model t) t.depot t.depot (replicate 300 true) (legs_in c.args.legs.now) (omega (arith, size_model t)) refl) c.check_drive.ensures
