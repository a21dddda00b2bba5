-- The steps of the proof of `merge` that are not found by search.
use Rattle.join.specs.Weights.{town_of, lengths_of}
use Rattle.join.proofs.StreetSets.{ends_below}
use Rattle.join.proofs.Uniting.{kept_on, merged_more}
use Rattle.join.proofs.partition.Classes.merge.Goals as goal

pub loop-k-preserved : goal.loop-k-preserved
loop-k-preserved c =
    let i = c.loop-k.invariant in
    let m = c.merge_over.ensures in (
      m.classed,
      kept_on c.args.self.now c.loop-k.self c.merge_over.new.self i.1 m.kept,
      merged_more (town_of c.args.streets.now) (lengths_of c.args.streets.now) c.loop-k.self c.merge_over.new.self c.loop-k.k (ends_below c.args.streets.now.town.now) i.2 m.kept m.merged,
      λ g n p. m.progress g n (i.3 g n p),
    )
