use Rattle.std.proofs.Common.{◌∙◌, ap, length, length-set}
use Rattle.mw_rules.specs.Holds.{bag_of}
use Rattle.mw_reach.proofs.Items.{counted}
use Rattle.mw_spheres.proofs.Taking.{room_for_one}
use Rattle.mw_spheres.proofs.gather.add_items.Goals as goal

pub add-requires-clause-room : goal.add-requires-clause-room
add-requires-clause-room c = room_for_one c.args.bag.now c.loop-item.bag c.args.items.now c.loop-item.item-index c.loop-item-test.true c.loop-item.invariant.counts c.requires.room

pub loop-item-preserved : goal.loop-item-preserved
loop-item-preserved c = record {
  size = ap length c.add.ensures ∙ length-set c.loop-item.bag _ _ ∙ c.loop-item.invariant.size;
  counts = λ i. ap (λ bag. bag_of bag i) c.add.ensures
      ∙ counted c.args.bag.now c.loop-item.bag c.args.items.now c.loop-item.item-index c.loop-item-test.true c.loop-item.invariant.counts (rw c.loop-item.invariant.size (c.requires.items c.loop-item.item-index 0 c.loop-item-test.true)) i;
}
