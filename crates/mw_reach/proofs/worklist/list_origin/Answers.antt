use Rattle.std.proofs.Common.{◌≡◌, ◌≤◌, arith, ap, sym, ◌∙◌, true, false, length}
use Rattle.std.proofs.lemmas.List.{length-set}
use Rattle.mw_rules.specs.Holds.{places_of}
use Rattle.mw_reach.specs.Counts.{missing}
use Rattle.mw_reach.proofs.Waking.{newly_listed, room_left, missing-set}
use Rattle.mw_reach.proofs.worklist.list_origin.Goals as goal

pub returns-clause-woken : goal.returns-clause-woken
returns-clause-woken c step bag done to opens =
    let listed = c.args.frontier.now.listed.items in
    let free : places_of listed c.args.row.now.to ≡ false = sym c.has.ensures ∙ c.if-has.false in
    let room : 1 ≤ missing listed = room_left listed c.args.row.now.to c.requires.to free in
    let new : places_of listed step.to ≡ false = ap (places_of listed) to ∙ free in
    rw (c.list.ensures.listed, c.list.ensures.queue, c.list.ensures.len, ← to) (newly_listed bag done step listed c.args.frontier.now.queue.items c.args.frontier.now.len (omega arith) (omega arith) new opens)

pub returns-clause-space : goal.returns-clause-space
returns-clause-space c =
    let listed = c.args.frontier.now.listed.items in
    let free : places_of listed c.args.row.now.to ≡ false = sym c.has.ensures ∙ c.if-has.false in
    omega (arith, missing-set listed c.args.row.now.to c.requires.to free, length-set listed c.args.row.now.to true, c.requires.space, ap missing c.list.ensures.listed, ap length c.list.ensures.listed, c.list.ensures.len)
