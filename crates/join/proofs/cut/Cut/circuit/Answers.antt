-- The step of the proof of `circuit` that is not found by search.
use Rattle.std.proofs.Common.{◌≡◌, ℕ, true, ◌&&◌, sym, ◌∙◌, below_more}
use Rattle.std.proofs.lemmas.Bool.{both_ways, and_from}
use Rattle.road.specs.Counts.{Set, cut}
use Rattle.road.specs.Model.{marked}
use Rattle.join.specs.Weights.{ground, side_of}
use Rattle.join.specs.Circuits.{Lone}
use Rattle.join.proofs.cut.Cut.circuit.Goals as goal
use Rattle.join.proofs.cut.Cut.circuit.Goals.{then-is_exit+in_default, else-is_exit}

pub loop-k-preserved : goal.loop-k-preserved
loop-k-preserved c =
    let t = ground c.args.self.now in
    let Z = side_of c.args.self.now in
    let J = marked c.args.drives.now in
    let k = c.loop-k.k in
    let P : ℕ → Type 0 = λ k. J k ≡ true → cut t Z k ≡ true → (Y : Set) × Lone t Z J (marked c.args.base.now) k Y in
    elim c.if-is_exit.branch [
      | then-is_exit+in_default w ↦ below_more P k c.loop-k.invariant (λ _ _. w.in_default.ensures)
      | else-is_exit w ↦ below_more P k c.loop-k.invariant (λ own u. absurd (both_ways (J k && cut t Z k) (sym c.is_exit.ensures ∙ w.if-is_exit.false) (and_from (J k) (cut t Z k) own u)))
    ]
