-- The steps of the proof of `shift` that are not found by search.
use Rattle.std.proofs.Common.{◌≡◌, ℕ, ◌≤◌, true, not, ◌&&◌, sym, ap, ◌∙◌, subst, w64, arith}
use Rattle.std.proofs.lemmas.Int.{to_z-of_z}
use Rattle.road.specs.Counts.{cut}
use Rattle.road.specs.Model.{marked}
use Rattle.road.proofs.Models.{size_model}
use Rattle.join.specs.Odd.{streets_of}
use Rattle.join.specs.Amounts.{Moves, shifted}
use Rattle.join.specs.Problems.{town_in, reached_in}
use Rattle.join.specs.Turns.{lengths_at, potential_at}
use Rattle.join.proofs.Borders.{border_is}
use Rattle.join.proofs.Restoring.{cut_below}
use Rattle.join.proofs.Shifting.{moves_most, shifted_most}
use Rattle.join.proofs.level.Level.shift.Goals as goal

pub shift_along-requires : goal.shift_along-requires
shift_along-requires c =
    let p = c.args.problem.now in
    let v = c.args.self.now in
    let Z = marked c.args.marks.now in
    let z = to_z-of_z w64 c.args.by c.ranges.by in
    let b = c.requires.listed in
    let fits = λ (k : ℕ) (u : streets_of c.args.legs.now k ≡ true).
    let h = sym (b.all k) ∙ u in
    subst (Moves 1200000000000 (lengths_at v k)) (sym z)
    (moves_most 4000000000 1200000000000 (lengths_at v k) c.args.by (omega arith) (c.requires.streets k (cut_below p.streets.town.now Z 0 k h) h)) in
    record { whole = v.whole; apart = b.apart; listed = λ i h. (omega (arith, (b.each i h).below, size_model p.streets.town.now, p.streets.town.now.few), b.all _ ∙ (b.each i h).cuts); fits = fits }

pub shift-requires : goal.shift-requires
shift-requires c =
    let v = c.args.self.now in
    let z = to_z-of_z w64 c.args.by c.ranges.by in
    let fits = λ (u : ℕ) (o : marked c.unmarked.result u ≡ true).
    subst (Moves 1200000000000 (potential_at v u)) (sym z) (c.requires.crossings u (sym (ap (λ f. f u) c.unmarked.ensures) ∙ o)) in
    (omega arith, (omega arith, (v.whole_potential, fits)))

pub invariant_of-self : goal.invariant_of-self
invariant_of-self c =
    let p = c.args.problem.now in
    let Z = marked c.args.marks.now in
    let by = c.args.by in
    let z = to_z-of_z w64 by c.ranges.by in
    let S = cut (town_in p) Z in
    let O = λ (u : ℕ). reached_in p u && not (Z u) in
    let v = c.args.self.now in
    let l = lengths_at v in
    let g = potential_at v in
    let el = c.shift_along.ensures.is ∙ ap (λ b. shifted (streets_of c.args.legs.now) b l) z ∙ ap (λ S. shifted S by l) (border_is c.requires.listed) in
    let eg = c.shift.ensures.is ∙ ap (λ b. shifted (marked c.unmarked.result) b g) z ∙ ap (λ S. shifted S by g) c.unmarked.ensures in
    record {
      streets = c.shift_along.ensures.long;
      places = c.shift.ensures.long;
      whole = c.shift_along.ensures.whole;
      most = λ k. subst (λ n. n ≤ 4000000000) (sym (ap (λ f. f k) el))
          (shifted_most S by l 4000000000 v.most (λ k u. c.requires.streets k (cut_below p.streets.town.now Z 0 k u) u) k);
      whole_potential = c.shift.ensures.whole;
      high = λ u. subst (λ n. n ≤ 1200000000000) (sym (ap (λ f. f u) eg)) (shifted_most O by g 1200000000000 v.high c.requires.crossings u);
    }

pub returns : goal.returns
returns c =
    let z = to_z-of_z w64 c.args.by c.ranges.by in
    let l = lengths_at c.args.self.now in
    let g = potential_at c.args.self.now in
    record {
      streets = c.shift_along.ensures.is ∙ ap (λ b. shifted (streets_of c.args.legs.now) b l) z ∙ ap (λ S. shifted S c.args.by l) (border_is c.requires.listed);
      crossings = c.shift.ensures.is ∙ ap (λ b. shifted (marked c.unmarked.result) b g) z ∙ ap (λ S. shifted S c.args.by g) c.unmarked.ensures;
    }
