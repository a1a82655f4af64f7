use Rattle.std.proofs.Common.{◌≡◌, ◌≤◌, arith, false, sym, ◌∙◌}
use Rattle.mw_rules.specs.Holds.{bag_of, places_of}
use Rattle.mw_reach.specs.Counts.{missing}
use Rattle.mw_reach.specs.Rows.{step_of}
use Rattle.mw_reach.proofs.Waking.{newly_listed, room_left}
use Rattle.mw_reach.proofs.worklist.ask.Goals as goal

pub returns-clause-woken : goal.returns-clause-woken
returns-clause-woken g c =
    let listed = c.args.frontier.now.listed.items in
    let to = c.args.row.now.to in
    let new : places_of listed to ≡ false = sym c.has.ensures ∙ c.if-has.false in
    let room : 1 ≤ missing listed = room_left listed to (omega arith) new in
    rw (c.list.ensures.listed, c.list.ensures.queue, c.list.ensures.len)
    (newly_listed (bag_of c.args.tally.now.counts.items) (places_of c.args.tally.now.done.items) (step_of c.args.terrain.now.joint.now c.args.row.now) listed c.args.frontier.now.queue.items c.args.frontier.now.len (omega arith) (omega arith) new
    (sym c.is_open.ensures.answer ∙ c.if-not-is_open.false))
