use Rattle.std.proofs.Common.{◌≡◌, ◌+◌, length, get_or, take, arith, ap, ◌∙◌}
use Rattle.std.proofs.lemmas.List.{length-append, length-map}
use Rattle.mw_rules.specs.Holds.{bag_of, places_of}
use Rattle.mw_reach.specs.Rows.{step_of, steps_in}
use Rattle.mw_multi.specs.Placement.{numbers_at}
use Rattle.mw_reach.specs.Worklist.{numbers_of}
use Rattle.mw_reach.proofs.Among.{item_numbers}
use Rattle.mw_reach.proofs.Waking.{one_item_more, numbers_more}
use Rattle.mw_reach.proofs.worklist.wake_items.Goals as goal

pub wake-requires-clause-numbers : goal.wake-requires-clause-numbers
wake-requires-clause-numbers g c k d h =
    let rows = c.args.terrain.now.rows.now in
    let steps = steps_in c.args.terrain.now.joint.now rows in
    let item = get_or c.args.items.now c.loop-item.item-index 0 in
    let within = item_numbers steps rows.origins rows.by_place rows.by_item c.requires.terrain.rows.watched item k d (rw c.at-numbers.ensures at h) in
    rw c.at-numbers.ensures (omega (arith, within, length-map rows.rows (step_of c.args.terrain.now.joint.now)))

pub loop-item-preserved : goal.loop-item-preserved
loop-item-preserved g c =
    let rows = c.args.terrain.now.rows.now in
    let steps = steps_in c.args.terrain.now.joint.now rows in
    let items = c.args.items.now in
    let i = c.loop-item.item-index in
    let more = numbers_more rows.by_item items i c.loop-item-test.true in
    let longer : length (numbers_of rows.by_item (take (i + 1) items)) ≡ length (numbers_of rows.by_item (take i items)) + length (numbers_at rows.by_item (get_or items i 0)) =
    ap length more ∙ length-append (numbers_of rows.by_item (take i items)) (numbers_at rows.by_item (get_or items i 0)) in
    record {
      frontier = c.wake.ensures.frontier;
      steps = omega (arith, c.loop-item.invariant.steps, c.wake.ensures.steps, ap length c.at-numbers.ensures, longer);
      woken = one_item_more (bag_of c.args.tally.now.counts.items) (places_of c.args.tally.now.done.items) steps rows.by_item items i _ _ _ _ _ _ _ _ _ c.loop-item-test.true c.loop-item.invariant.woken
          (rw c.at-numbers.ensures at c.wake.ensures.woken);
    }
