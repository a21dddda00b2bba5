-- The steps of the proof of `take_turns` that are not found by search.
use Rattle.std.proofs.Common.{◌+◌, length, vec_items, ap, ◌∙◌, subst, arith}
use Rattle.std.proofs.lemmas.List.{length_push}
use Rattle.join.specs.declared.turn.Turn.{Turn}
use Rattle.join.specs.Problems.{town_in, reached_in}
use Rattle.join.specs.Progress.{Progress, charges_in}
use Rattle.join.specs.Turns.{lengths_at, potential_at, FindsAt, Named, Leaves}
use Rattle.join.proofs.Passing.{run_same, run_charge, staged_new, staged_kept, listed_push}
use Rattle.join.proofs.Progress.{progress_most}
use Rattle.join.proofs.level.Level.take_turns.Goals as goal

pub returns-in-Better-clause-run : goal.returns-in-Better-clause-run
returns-in-Better-clause-run c =
    let q = c.args.prices.now in
    let t = town_in q.problem in
    let v = c.loop-found.self in
    let v' = c.take_turn.new.self in
    let c' = c.take_turn.new.classes in
    let n = length (vec_items c.loop-found.stages) in
    let i = c.loop-found.invariant.0 in
    let d = c.in_ok-found.ensures in
    let l = subst (Leaves t (reached_in q.problem) (lengths_at v) (potential_at v) (lengths_at v') (potential_at v')) c.in-Better.is d.leaves in
    let p = subst (λ (r : Turn). Progress t (lengths_at v') (potential_at v') c' (n + charges_in r)) c.in-Better.is (d.progress n i.progress) in
    run_same _ _ _ _ _ _ i d.kept d.settled l.0 l.1 p

pub loop-found-smaller : goal.loop-found-smaller
loop-found-smaller c =
    let q = c.args.prices.now in
    let v' = c.take_turn.new.self in
    let c' = c.take_turn.new.classes in
    let n = length (vec_items c.loop-found.stages) in
    let d = c.in_ok-found.ensures in
    let p = subst (λ (r : Turn). Progress (town_in q.problem) (lengths_at v') (potential_at v') c' (n + charges_in r)) c.in-Charge.is (d.progress n c.loop-found.invariant.0.progress) in
    omega (arith, progress_most _ _ _ _ (n + 1) p, ap length c.in_ok-push-in-Charge.ensures.items, length_push (vec_items c.loop-found.stages) c.in-Charge.stage)

pub loop-found-preserved : goal.loop-found-preserved
loop-found-preserved c =
    let q = c.args.prices.now in
    let t = town_in q.problem in
    let v = c.loop-found.self in
    let v' = c.take_turn.new.self in
    let c' = c.take_turn.new.classes in
    let s = c.in-Charge.stage in
    let n = length (vec_items c.loop-found.stages) in
    let i = c.loop-found.invariant.0 in
    let d = c.in_ok-found.ensures in
    let f = subst (FindsAt q v) c.in-Charge.is d.finds in
    let m = subst (Named t c.loop-found.classes) c.in-Charge.is d.named in
    let l = subst (Leaves t (reached_in q.problem) (lengths_at v) (potential_at v) (lengths_at v') (potential_at v')) c.in-Charge.is d.leaves in
    let p = subst (λ (r : Turn). Progress t (lengths_at v') (potential_at v') c' (n + charges_in r)) c.in-Charge.is (d.progress n i.progress) in
    let a = f.0.attained in
    let new = staged_kept q c.loop-found.classes c' (lengths_at v) (potential_at v) s d.kept (staged_new q v c.loop-found.classes s i.settled.pass i.settled.classed f.0 f.1 m.0) in (
      run_charge _ _ _ _ _ _ i d.kept d.settled s _ c.in_ok-push-in-Charge.ensures.items new (a.0, a.1, a.2) l.0 l.1 p,
      listed_push t (vec_items c.loop-found.stages) _ (vec_items c.loop-found.borders) _ s c.in-Charge.legs c.loop-found.invariant.1 m.1 c.in_ok-push-in-Charge.ensures.items c.in_ok-push-in-Charge-2.ensures.items,
    )

pub returns-in-Done : goal.returns-in-Done
returns-in-Done c =
    let q = c.args.prices.now in
    let t = town_in q.problem in
    let v = c.loop-found.self in
    let v' = c.take_turn.new.self in
    let c' = c.take_turn.new.classes in
    let n = length (vec_items c.loop-found.stages) in
    let i = c.loop-found.invariant.0 in
    let d = c.in_ok-found.ensures in
    let f = subst (FindsAt q v) c.in-Done.is d.finds in
    let l = subst (Leaves t (reached_in q.problem) (lengths_at v) (potential_at v) (lengths_at v') (potential_at v')) c.in-Done.is d.leaves in
    let p = subst (λ (r : Turn). Progress t (lengths_at v') (potential_at v') c' (n + charges_in r)) c.in-Done.is (d.progress n i.progress) in
    record {
      run = run_same _ _ _ _ _ _ i d.kept d.settled l.0 l.1 p;
      listed = c.loop-found.invariant.1;
      ends = λ u h. ap (λ g. g u) l.1 ∙ f u h;
    }
