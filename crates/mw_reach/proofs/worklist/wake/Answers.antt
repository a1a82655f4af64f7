use Rattle.std.proofs.Common.{◌<◌, length, get_or, map, arith}
use Rattle.mw_rules.specs.Holds.{bag_of, places_of}
use Rattle.mw_reach.specs.Rows.{step_of}
use Rattle.mw_reach.proofs.Waking.{one_more_asked, step_at-map}
use Rattle.mw_reach.proofs.worklist.wake.Goals as goal

pub loop-number-preserved : goal.loop-number-preserved
loop-number-preserved g c =
    let joint = c.args.terrain.now.joint.now in
    let rows = c.args.terrain.now.rows.now.rows in
    let i = c.loop-number.number-index in
    let number = get_or c.args.numbers.now i 0 in
    let within : number < length rows = c.requires.numbers i 0 c.loop-number-test.true in
    let woken = rw c.as_slice-rows.ensures at c.ask.ensures.woken in
    record {
      frontier = c.ask.ensures.frontier;
      steps = omega (arith, c.ask.ensures.steps, c.loop-number.invariant.steps);
      woken = one_more_asked (bag_of c.args.tally.now.counts.items) (places_of c.args.tally.now.done.items) (map (step_of joint) rows) c.args.numbers.now i _ _ _ _ _ _ _ _ _ c.loop-number-test.true c.loop-number.invariant.woken
          (rw (step_at-map joint rows number within) woken);
    }
