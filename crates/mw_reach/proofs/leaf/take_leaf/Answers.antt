use Rattle.std.proofs.Common.{◌≡◌, ◌+◌, true, sym, ap, ◌∙◌, arith, zero-add}
use Rattle.std.proofs.lemmas.List.{length-set}
use Rattle.mw_reach.specs.Rows.{steps_in}
use Rattle.mw_reach.specs.Worklist.{cost_at, paid}
use Rattle.mw_reach.proofs.Waking.{missing-fewer}
use Rattle.mw_reach.proofs.Working.{leaf_going, leaf_taken, sum_at-set}
use Rattle.mw_reach.proofs.leaf.take_leaf.Goals as goal

pub wake_items-requires-clause-space : goal.wake_items-requires-clause-space
wake_items-requires-clause-space g c =
    let listed = c.args.frontier.now.listed.items in
    omega (arith, missing-fewer listed c.args.leaf (omega arith), length-set listed c.args.leaf true, c.requires.going.space)

pub returns-clause-going : goal.returns-clause-going
returns-clause-going g c =
    rw c.add.ensures.place (leaf_going c.args.terrain.now.placed.now c.args.tally.now.done.items c.args.tally.now.counts.items c.add.new.self.counts.items c.args.leaf c.requires.leaf (sym c.has.ensures ∙ c.if-has.false) c.add.ensures.counts
    _ _ _ c.args.frontier.now.listed.items c.args.frontier.now.queue.items c.args.frontier.now.len _ _ _ (omega arith) c.wake_items.ensures.woken (omega (arith, length-set c.args.frontier.now.listed.items c.args.leaf true)) c.requires.going)

pub returns-clause-steps : goal.returns-clause-steps
returns-clause-steps g c =
    let rows = c.args.terrain.now.rows.now in
    let placed = c.args.terrain.now.placed.now in
    let leaf = c.args.leaf in
    let at : 0 + leaf ≡ leaf = zero-add leaf in
    let items = rw c.at-items.ensures at c.wake_items.ensures.steps in
    let more : paid rows placed c.add.new.self.done.items ≡ paid rows placed c.args.tally.now.done.items + cost_at rows placed (0 + leaf) =
    ap (paid rows placed) c.add.ensures.place ∙ sum_at-set (cost_at rows placed) 0 leaf c.args.tally.now.done.items c.requires.leaf (sym c.has.ensures ∙ c.if-has.false) in
    omega (arith, items, more, ap (cost_at rows placed) at)

pub returns-clause-taken : goal.returns-clause-taken
returns-clause-taken g c base head from early leaf start before =
    let rows = c.args.terrain.now.rows.now in
    let woken = rw (c.at-items.ensures, c.add.ensures.place) at c.wake_items.ensures.woken in
    rw c.add.ensures.place (leaf_taken (steps_in c.args.terrain.now.joint.now rows) rows.origins rows.by_place rows.by_item c.requires.terrain.rows.watched c.args.terrain.now.placed.now c.args.tally.now.done.items c.args.tally.now.counts.items c.add.new.self.counts.items c.args.leaf
    c.requires.leaf (sym c.has.ensures ∙ c.if-has.false) c.add.ensures.counts base c.args.frontier.now.listed.items c.args.frontier.now.queue.items head c.args.frontier.now.len from early leaf start before (omega arith) _ _ _ woken (omega (arith, length-set c.args.frontier.now.listed.items c.args.leaf true)))
