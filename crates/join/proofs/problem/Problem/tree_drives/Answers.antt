-- The steps of the proof of `tree_drives` that are not found by search.
use Rattle.std.proofs.Common.{◌≡◌, true, sym, ap, ◌∙◌, arith, rules}
use Rattle.road.specs.Counts.{Set}
use Rattle.road.specs.Model.{marked}
use Rattle.join.specs.Joins.{◌⊞◌, out}
use Rattle.join.specs.Odd.{odd_at}
use Rattle.join.specs.Components.{path_in}
use Rattle.join.specs.Problems.{town_in}
use Rattle.join.proofs.Trees.{ways_to_odd, way_more, no_way_more, ways_join, odd_found, tree_leads, no_ways_yet}
use Rattle.join.proofs.problem.Problem.tree_drives.Goals as goal
use Rattle.join.proofs.problem.Problem.tree_drives.Goals.{then-odd-v, else-odd-v}

pub loop-v-init : goal.loop-v-init
loop-v-init c =
    let p = c.args.self.now in
    (search rules, no_ways_yet (town_in p) (marked p.required.now) p.streets.town.now.depot)

pub loop-v-preserved : goal.loop-v-preserved
loop-v-preserved c =
    let p = c.args.self.now in
    let t = town_in p in
    let A = marked p.required.now in
    let r = p.streets.town.now.depot in
    let n = c.loop-v.v in
    let H = marked c.loop-v.drives in
    let i = c.loop-v.invariant in
    let is = c.odd-odd.ensures n in
    let odd_n = odd_at t A n in
    elim c.if-odd-v.branch [
      | then-odd-v w ↦
          let o : odd_n ≡ true = sym is ∙ w.if-odd-v.true in
          let e : marked c.if-odd-v.drives ≡ H ⊞ path_in c.args.tree.now n = ap marked w.drives-is ∙ w.xor-drives.ensures ∙ ap (λ (J : Set). H ⊞ J) w.path_to.ensures in (
            search rules,
            λ Z. ap (λ (J : Set). out t J Z) e ∙ way_more t A H (path_in c.args.tree.now n) r n i.1 o
                (tree_leads p c.args.tree.now c.requires n (odd_found p c.args.tree.now c.requires n o)) Z,
          )
      | else-odd-v w ↦ (search rules, λ Z. ap (λ xs. out t (marked xs) Z) w.drives-is ∙ no_way_more t A H r n i.1 (sym is ∙ w.if-odd-v.false) Z)
    ]

pub returns : goal.returns
returns c =
    let p = c.args.self.now in
    let t = p.streets.town.now in
    ways_join p (marked c.loop-v.drives)
    (λ Z. c.loop-v.invariant.1 Z ∙ ap (ways_to_odd (town_in p) (marked p.required.now) t.depot Z) (omega (arith, c.loop-v.auto.v-end, c.loop-v-test.false)))
