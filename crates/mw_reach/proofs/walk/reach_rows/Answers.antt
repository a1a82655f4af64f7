use Rattle.std.proofs.Common.{false, length, sym, ap, arith, ◌∙◌}
use Rattle.std.proofs.lemmas.List.{length-replicate}
use Rattle.mw_rules.specs.Holds.{bag_of, places_of}
use Rattle.mw_reach.specs.Counts.{missing}
use Rattle.mw_reach.specs.Rows.{steps_in}
use Rattle.mw_reach.proofs.Counting.{asked_of_rows}
use Rattle.mw_reach.proofs.Walks.{at_first, replicate-false}
use Rattle.mw_reach.proofs.Working.{begun, going, missing-replicate}
use Rattle.mw_reach.proofs.walk.reach_rows.Goals as goal

pub visit_all-requires-clause-going : goal.visit_all-requires-clause-going
visit_all-requires-clause-going g c =
    let rows = c.args.terrain.now.rows.now in
    let base = c.args.base.now in
    let placed = c.args.terrain.now.placed.now in
    let steps = steps_in c.args.terrain.now.joint.now rows in
    let done = c.start.ensures.done in
    let listed = c.clear.ensures.listed in
    let size = length c.args.frontier.now.listed.items in
    let counts = c.start.new.self.counts.items in
    let begins = c.start.new.self.done.items in
    let first = at_first placed (length c.args.tally.now.done.items) base counts begins done c.start.ensures.counts c.len.ensures.few c.requires.small in
    let woken = rw (c.as_slice.ensures, c.as_slice-2.ensures) at (c.begin.ensures.woken c.args.terrain.now.joint.now (bag_of counts) (places_of begins)) in
    going steps _ _ _ _ _ _ _ _ (begun steps rows.origins rows.by_place rows.by_item c.requires.terrain.rows.watched (bag_of base) placed begins counts c.clear.new.self.listed.items c.clear.new.self.queue.items _ _ _
    first.tally first.room (λ p. ap (λ ps. places_of ps p) done ∙ replicate-false _ p) (λ p. ap (λ ps. places_of ps p) listed ∙ replicate-false _ p)
    (ap missing listed ∙ missing-replicate size ∙ sym (c.begin.ensures.listed ∙ ap length listed ∙ length-replicate size false)) woken)

pub returns-clause-finished : goal.returns-clause-finished
returns-clause-finished g c =
    let rows = c.args.terrain.now.rows.now in
    let base = c.args.base.now in
    let placed = c.args.terrain.now.placed.now in
    let steps = steps_in c.args.terrain.now.joint.now rows in
    let done = c.start.ensures.done in
    let listed = c.clear.ensures.listed in
    let size = length c.args.frontier.now.listed.items in
    let counts = c.start.new.self.counts.items in
    let begins = c.start.new.self.done.items in
    let first = at_first placed (length c.args.tally.now.done.items) base counts begins done c.start.ensures.counts c.len.ensures.few c.requires.small in
    let woken = rw (c.as_slice.ensures, c.as_slice-2.ensures) at (c.begin.ensures.woken c.args.terrain.now.joint.now (bag_of counts) (places_of begins)) in
    c.visit_all.ensures.finished (bag_of base)
    (begun steps rows.origins rows.by_place rows.by_item c.requires.terrain.rows.watched (bag_of base) placed begins counts c.clear.new.self.listed.items c.clear.new.self.queue.items _ _ _
    first.tally first.room (λ p. ap (λ ps. places_of ps p) done ∙ replicate-false _ p) (λ p. ap (λ ps. places_of ps p) listed ∙ replicate-false _ p)
    (ap missing listed ∙ missing-replicate size ∙ sym (c.begin.ensures.listed ∙ ap length listed ∙ length-replicate size false)) woken)

pub returns-clause-steps : goal.returns-clause-steps
returns-clause-steps g c =
    let placed = c.args.terrain.now.placed.now in
    let rows = c.args.terrain.now.rows.now in
    let bound = asked_of_rows c.args.terrain.now.joint.now rows c.requires.terrain.rows.watched placed c.visit_all.new.tally.done.items in
    omega (arith, c.visit_all.ensures.steps, bound)
