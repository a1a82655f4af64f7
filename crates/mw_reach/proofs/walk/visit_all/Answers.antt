use Rattle.std.proofs.Common.{arith}
use Rattle.mw_reach.specs.Rows.{steps_in}
use Rattle.mw_reach.proofs.Working.{finished}
use Rattle.mw_reach.proofs.walk.visit_all.Goals as goal

pub loop-head-preserved : goal.loop-head-preserved
loop-head-preserved g c = record {
  tally = c.take_next.ensures.tally;
  frontier = c.take_next.ensures.frontier;
  going = c.take_next.ensures.going;
  walking = λ base before. c.take_next.ensures.working base (c.loop-head.invariant.walking base before);
  steps = omega (arith, c.take_next.ensures.steps, c.loop-head.invariant.steps);
}

pub returns-clause-finished : goal.returns-clause-finished
returns-clause-finished g c base before =
    let terrain = c.args.terrain.now in
    let now = c.loop-head in
    let end = now.invariant.walking base before in
    record {
      least = finished (steps_in terrain.joint.now terrain.rows.now) base terrain.placed.now now.tally.done.items now.tally.counts.items now.frontier.listed.items now.frontier.queue.items now.head now.frontier.len c.loop-head-test.false end;
      tally = end.tally;
    }
