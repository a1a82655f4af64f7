use Rattle.std.proofs.Common.{Some, ap, arith}
use Rattle.std.proofs.lemmas.List.{length-map}
use Rattle.mw_rules.specs.Ruling.{rule_at}
use Rattle.mw_multi.specs.Joint.{slot_items, slot_places, place_total, item_total}
use Rattle.mw_multi.specs.Steps.{rule_list}
use Rattle.mw_reach.specs.Rows.{step_of, steps_in}
use Rattle.mw_reach.specs.declared.row.Row.{Row}
use Rattle.mw_reach.proofs.Building.{one_row_more, named_within, start_row_fits, starts_there}
use Rattle.mw_reach.proofs.build.add_ruled.Goals as goal

pub returns-clause-kept : goal.returns-clause-kept
returns-clause-kept g c =
    let joint = c.args.joint.now in
    let old = c.args.rows.now in
    let row : Row = record { slot = c.args.index; start = Some c.args.start; to = c.args.to } in
    let named = c.named-named.result.now in
    let names = c.named-named.ensures.names (rule_list joint) c.requires.rules c.requires.start.number_fits in
    let there = starts_there joint c.args.index c.args.slot.now c.requires.slot c.args.start c.args.to c.slot.inside.first_place c.slot.inside.first_item named.items named.places
    (ap (λ s. s.first_place) c.slot.view_is) (ap (λ s. s.first_item) c.slot.view_is) names in
    let added = c.in_ok-add_step.ensures in
    one_row_more joint (place_total joint.slots) (item_total joint.slots) old c.add_step.new.rows row c.requires.rows
    (start_row_fits joint c.args.index c.args.slot.now c.requires.slot c.args.start c.args.to c.requires.to c.requires.start) added.rows added.sizes.0 added.sizes.1
    (added.watched (steps_in joint old) (step_of joint row) there (length-map old.rows (step_of joint)) c.requires.rows.watched) added.origins

pub add_step-requires-clause-places : goal.add_step-requires-clause-places
add_step-requires-clause-places g c k d h =
    let joint = c.args.joint.now in
    let slot = c.args.slot.now in
    let named = c.named-named.result.now in
    let names = c.named-named.ensures.names (rule_list joint) c.requires.rules c.requires.start.number_fits in
    let within = (named_within (rule_at (rule_list joint) c.args.start.rule) (slot_items slot) (slot_places slot) named.items named.places c.requires.start.rule_fits names).1 k d h in
    omega (arith, within, c.requires.slot.places, c.requires.rows.places_fit, ap (λ s. s.first_place) c.slot.view_is)

pub add_step-requires-clause-items : goal.add_step-requires-clause-items
add_step-requires-clause-items g c k d h =
    let joint = c.args.joint.now in
    let slot = c.args.slot.now in
    let named = c.named-named.result.now in
    let names = c.named-named.ensures.names (rule_list joint) c.requires.rules c.requires.start.number_fits in
    let within = (named_within (rule_at (rule_list joint) c.args.start.rule) (slot_items slot) (slot_places slot) named.items named.places c.requires.start.rule_fits names).0 k d h in
    omega (arith, within, c.requires.slot.items, c.requires.rows.items_fit, ap (λ s. s.first_item) c.slot.view_is)
