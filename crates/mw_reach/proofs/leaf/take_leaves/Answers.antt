use Rattle.std.proofs.Common.{◌≡◌, take, get_or, subst, ◌∙◌, arith}
use Rattle.std.proofs.lemmas.List.{take_all}
use Rattle.mw_reach.specs.Rows.{steps_in}
use Rattle.mw_reach.specs.Split.{HasTaken}
use Rattle.mw_reach.proofs.Among.{among_at}
use Rattle.mw_reach.proofs.Working.{leaves_more}
use Rattle.mw_reach.proofs.leaf.take_leaves.Goals as goal

pub loop-leaf-preserved : goal.loop-leaf-preserved
loop-leaf-preserved g c =
    let rows = c.args.terrain.now.rows.now in
    let now = c.loop-leaf in
    let i = now.leaf-index in
    let leaves = c.args.leaves.now in
    record {
      tally = c.take_leaf.ensures.tally;
      frontier = c.take_leaf.ensures.frontier;
      going = c.take_leaf.ensures.going;
      longer = omega (arith, now.invariant.longer, c.take_leaf.ensures.longer);
      front = λ k h. c.take_leaf.ensures.front k (omega (arith, now.invariant.longer)) ∙ now.invariant.front k h;
      steps = omega (arith, c.take_leaf.ensures.steps, now.invariant.steps);
      taken = λ base head from early are start before.
          let old = now.invariant.taken base head from early are start before in
          let one = c.take_leaf.ensures.taken base head from (omega (arith, now.invariant.longer)) (are (get_or leaves i 0) (among_at leaves i 0 c.loop-leaf-test.true)) (old.grows from start) old.working in
          leaves_more (steps_in c.args.terrain.now.joint.now rows) base c.args.terrain.now.placed.now _ _ c.args.frontier.now.listed.items now.frontier.listed.items _ _ head _ leaves i c.loop-leaf-test.true old.grows old.there one;
    }

pub returns-clause-taken : goal.returns-clause-taken
returns-clause-taken g c base head from early are start before =
    let now = c.loop-leaf in
    let leaves = c.args.leaves.now in
    let all : take now.leaf-index leaves ≡ leaves = take_all now.leaf-index leaves (omega arith) in
    subst (λ ls. HasTaken (steps_in c.args.terrain.now.joint.now c.args.terrain.now.rows.now) base c.args.terrain.now.placed.now now.tally.done.items now.tally.counts.items c.args.frontier.now.listed.items now.frontier.listed.items now.frontier.queue.items head now.frontier.len ls) all
    (now.invariant.taken base head from early are start before)
