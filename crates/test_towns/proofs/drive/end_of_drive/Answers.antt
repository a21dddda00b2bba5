-- The steps of the proof of `end_of_drive` that are not found by search.
use Rattle.std.proofs.Common.{ℕ, ◌+◌, ◌<◌, ◌≡◌, List, ◌∷◌, get_or, drop, length, arith, drop-cons, add-one, false, sym, ◌∙◌}
use Rattle.road.specs.declared.leg.Leg.{Leg}
use Rattle.road.specs.Roads.{stay}
use Rattle.road.specs.Model.{model}
use Rattle.std.proofs.Math.ListN.{drop_of_length-le}
use Rattle.road.proofs.Models.{size_model}
use Rattle.test_towns.proofs.Drives.{Begins, drive_rest, drive_on}
use Rattle.test_towns.proofs.drive.end_of_drive.Goals as goal
use Rattle.test_towns.proofs.drive.end_of_drive.Goals.{then-leg-town-via-then-leg-town, then-leg-town-via-else-leg-town+then-begin_of-at}

abbrev leg0 : Leg
leg0 = record { by = 0; back = false }

first : (ls : List Leg) (i : ℕ) → i < length ls → drop i ls ≡ get_or ls i leg0 ∷ drop (i + 1) ls
first ls i h = rw (add-one, drop-cons ls i leg0)

pub loop-leg-preserved : goal.loop-leg-preserved
loop-leg-preserved c w =
    let t = model c.args.town.now in
    let ls = c.args.legs.now in
    let i = c.loop-leg.leg-index in
    let l = get_or ls i leg0 in
    let b : Begins t c.loop-leg.at l = (rw (size_model c.args.town.now) c.if-leg-town.false, sym c.begin_of.ensures.is ∙ c.if-begin_of-at.false) in
    let one = rw (← first ls i c.loop-leg-test.true, ← c.end_of-at.ensures.is) at (drive_on t c.loop-leg.at w l (drop (i + 1) ls) b) in
    let all = c.loop-leg.invariant w in
    (λ d. one.0 (all.0 d), λ d. all.1 (one.1 d))

pub returns-then-leg-town : goal.returns-then-leg-town
returns-then-leg-town c w d =
    let t = model c.args.town.now in
    let ls = c.args.legs.now in
    let i = c.loop-leg.leg-index in
    let l = get_or ls i leg0 in
    let b = (drive_rest t c.loop-leg.at w l (drop (i + 1) ls) (rw (first ls i c.loop-leg-test.true) at ((c.loop-leg.invariant w).0 d))).0 in
    elim c.then-leg-town.branch [
      | then-leg-town-via-then-leg-town w ↦ omega (arith, b.0, size_model c.args.town.now)
      | then-leg-town-via-else-leg-town+then-begin_of-at w ↦ w.if-begin_of-at.true (w.begin_of.ensures.is ∙ b.1)
    ]

pub returns : goal.returns
returns c = (c.loop-leg.invariant c.loop-leg.at).1 (rw (drop_of_length-le c.args.legs.now c.loop-leg-test.false) (stay c.loop-leg.at))
