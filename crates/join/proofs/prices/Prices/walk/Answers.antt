-- The step of the proof of `walk` that is not found by search.
use Rattle.join.proofs.Relaxing.{led_begin, lowered_none}
use Rattle.join.proofs.prices.Prices.walk.Goals as goal

pub loop-init : goal.loop-init
loop-init c =
    let q = c.args.self.now in
    let set = c.copy_for-led.ensures in
    (c.requires, led_begin q c.args.first c.copy_for-led.result c.begin_of.result c.requires c.begin_of.ensures.is set.drives set.price, lowered_none q)
