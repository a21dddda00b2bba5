-- The steps of the proof of `take_turn` that are not found by search.
use Rattle.std.proofs.Common.{◌+◌, sym, subst, arith}
use Rattle.road.specs.Model.{marked}
use Rattle.join.specs.declared.turn.Turn.{Turn}
use Rattle.road.proofs.Models.{size_model}
use Rattle.join.specs.Amounts.{amount}
use Rattle.join.specs.Borders.{Bordered}
use Rattle.join.specs.Problems.{town_in, start_in, reached_in}
use Rattle.join.specs.Prices.{extra_in}
use Rattle.join.specs.Turns.{lengths_at, potential_at, FindsAt, Named, Taken}
use Rattle.join.proofs.StreetSets.{ends_below}
use Rattle.join.proofs.Progress.{progress_charge}
use Rattle.join.proofs.Charging.{streets_bear, crossings_bear, pass_on, classed_on, merged_on}
use Rattle.join.proofs.Passing.{taken_same}
use Rattle.join.proofs.level.Level.take_turn.Goals as goal
use Rattle.join.proofs.level.Level.take_turn.Goals.{in-Charge, in_default}

pub charge-requires : goal.charge-requires
charge-requires c =
    let q = c.args.prices.now in
    let v = c.args.self.now in
    let s = c.in-Charge.stage in
    let f = subst (FindsAt q v) c.in-Charge.is c.in_ok-turn.ensures.0 in
    let m = subst (Named (town_in q.problem) c.args.classes.now) c.in-Charge.is c.in_ok-turn.ensures.1 in
    record {
      listed = subst (Bordered (town_in q.problem) (marked s.marks)) (sym c.as_slice.ensures.value) m.1;
      streets = streets_bear q v (marked s.marks) (amount s.charge) s.base c.requires.pass f.0;
      crossings = crossings_bear q v (marked s.marks) (amount s.charge) s.base c.requires.pass f.0;
    }

pub merge_along-requires : goal.merge_along-requires
merge_along-requires c =
    let q = c.args.prices.now in
    let t = town_in q.problem in
    let v = c.args.self.now in
    let v' = c.charge.new.self in
    let s = c.in-Charge.stage in
    let Z = marked s.marks in
    let m = subst (Named t c.args.classes.now) c.in-Charge.is c.in_ok-turn.ensures.1 in
    let b = subst (Bordered t Z) (sym c.as_slice-in-Charge.ensures.value) m.1 in
    let el = c.charge.ensures.streets in
    record {
      classed = classed_on t (lengths_at v) (lengths_at v') c.args.classes.now Z (amount s.charge) c.requires.classed el;
      low = λ i h. omega (arith, (b.each i h).below, size_model q.problem.streets.town.now);
      others = merged_on t (lengths_at v) (lengths_at v') c.args.classes.now Z (amount s.charge) q.problem.streets.town.now.count c.as_slice-in-Charge.result.now c.requires.merged b el;
    }

pub returns : goal.returns
returns c =
    let q = c.args.prices.now in
    let p = q.problem in
    let t = town_in p in
    let v = c.args.self.now in
    let cl = c.args.classes.now in
    let turn = c.in_ok-turn.turn in
    elim c.match-turn.branch [
      | in-Charge w ↦
          let s = w.in-Charge.stage in
          let Z = marked s.marks in
          let v' = w.charge.new.self in
          let d = w.charge.ensures in
          let m = w.merge_along.ensures in
          let f = subst (FindsAt q v) w.in-Charge.is c.in_ok-turn.ensures.0 in
          let named = subst (Named t cl) w.in-Charge.is c.in_ok-turn.ensures.1 in
          subst (λ (r : Turn). Taken q v cl r c.match-turn.self c.match-turn.classes) (sym w.in-Charge.is) (rw (w.self-is, w.classes-is) (record {
            settled = record { pass = pass_on q v Z (amount s.charge) s.base c.requires.pass f.0 v' d.streets d.crossings; classed = m.classed; merged = m.merged };
            kept = m.kept;
            finds = f;
            named = named;
            progress = λ n x. m.progress (potential_at v') (n + 1)
                (progress_charge t (ends_below p.streets.town.now) (start_in p) (reached_in p) (lengths_at v) (potential_at v) (extra_in q) c.requires.pass.level Z (amount s.charge) s.base f.0
                cl f.1 named.0 (lengths_at v') (potential_at v') d.streets d.crossings n x);
            leaves = (d.streets, d.crossings);
          }))
      | in_default w ↦ rw (w.self-is, w.classes-is) (taken_same q v cl turn c.requires c.in_ok-turn.ensures.0 c.in_ok-turn.ensures.1 w.in_default.not-Charge)
    ]
