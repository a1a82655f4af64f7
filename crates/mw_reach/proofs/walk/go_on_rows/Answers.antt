use Rattle.std.proofs.Common.{◌≡◌, ap, ◌∙◌, arith}
use Rattle.mw_reach.specs.Rows.{steps_in}
use Rattle.mw_reach.specs.Worklist.{paid}
use Rattle.mw_reach.proofs.Resuming.{going_on, resumed}
use Rattle.mw_reach.proofs.walk.go_on_rows.Goals as goal

pub count-requires-clause-room : goal.count-requires-clause-room
count-requires-clause-room g c i = omega (arith, c.requires.room i)

pub visit_all-requires-clause-going : goal.visit_all-requires-clause-going
visit_all-requires-clause-going g c =
    let tally = c.args.tally.now in
    let listed : c.list_done.new.self.listed.items ≡ tally.done.items = c.list_done.ensures.listed ∙ c.as_slice.ensures.value in
    let woken = rw (listed, c.list_done.ensures.len, c.count.ensures.done) at c.wake_items.ensures.woken in
    rw c.count.ensures.done
    (going_on c.args.terrain.now.placed.now tally.done.items tally.counts.items c.count.new.self.counts.items c.args.more.now c.count.ensures.counts c.requires.room _ _ _ _ _ _ _ woken (omega arith))

pub returns-clause-finished : goal.returns-clause-finished
returns-clause-finished g c base later before old more =
    let rows = c.args.terrain.now.rows.now in
    let tally = c.args.tally.now in
    let listed : c.list_done.new.self.listed.items ≡ tally.done.items = c.list_done.ensures.listed ∙ c.as_slice.ensures.value in
    let woken = rw (listed, c.list_done.ensures.len, c.count.ensures.done) at c.wake_items.ensures.woken in
    c.visit_all.ensures.finished later
    (rw c.count.ensures.done
    (resumed (steps_in c.args.terrain.now.joint.now rows) rows.origins rows.by_place rows.by_item c.requires.terrain.rows.watched tally.done.items tally.counts.items c.count.new.self.counts.items c.args.more.now c.count.ensures.counts
    base later before c.args.terrain.now.placed.now _ _ _ _ old more c.requires.room woken (omega arith)))

pub returns-clause-steps : goal.returns-clause-steps
returns-clause-steps g c =
    omega (arith, c.visit_all.ensures.steps, c.wake_items.ensures.steps, ap (paid c.args.terrain.now.rows.now c.args.terrain.now.placed.now) c.count.ensures.done)
