use Rattle.std.proofs.Common.{◌≡◌, ◌+◌, ◌∙◌, length, ap, arith}
use Rattle.std.proofs.lemmas.List.{get_or_read}
use Rattle.mw_rules.specs.Holds.{bag_of, places_of, holds}
use Rattle.mw_rules.specs.Ruling.{rule_at}
use Rattle.mw_multi.specs.Joint.{slot_items, slot_places}
use Rattle.mw_multi.specs.Steps.{rule_list}
use Rattle.mw_reach.specs.Rows.{no_slot, slot_at}
use Rattle.mw_reach.proofs.Parts.{within_parts, holds-parts}
use Rattle.mw_reach.proofs.worklist.holds.Goals as goal

pub returns-clause-answer : goal.returns-clause-answer
returns-clause-answer g c =
    let joint = c.args.joint.now in
    let slot = slot_at joint c.args.asked.slot in
    let counts = c.as_slice-counts.result.now in
    let done = c.as_slice-done.result.now in
    let rule = rule_at (rule_list joint) c.args.asked.rule in
    let slots : c.as_slice.result.now ≡ joint.slots = c.as_slice.ensures ∙ ap (λ j. j.slots) c.joint.view_is in
    let here : c.index-as_slice-asked.result ≡ slot = get_or_read joint.slots c.args.asked.slot c.index-as_slice-asked.result c.requires.slot (rw slots at c.index-as_slice-asked.is) no_slot in
    let is = c.slot.view_is ∙ here in
    let items = c.item_count.ensures.value ∙ ap slot_items is in
    let places = c.place_count.ensures.value ∙ ap slot_places is in
    let parts = within_parts slot counts done c.slot.inside.first_item c.item_count.result c.slot.inside.first_place c.place_count.result (ap (λ s. s.first_item) is) items (ap (λ s. s.first_place) is) places rule c.requires.within (omega (arith, c.requires.tally.counts, c.requires.items, ap length c.as_slice-counts.ensures.value)) (omega (arith, c.requires.tally.done, c.requires.places, ap length c.as_slice-done.ensures.value)) in
    c.ask.ensures.answer (rule_list joint) c.requires.rules c.requires.rule parts
    ∙ holds-parts slot counts done c.slot.inside.first_item c.item_count.result c.slot.inside.first_place c.place_count.result (ap (λ s. s.first_item) is) items (ap (λ s. s.first_place) is) places rule c.requires.within
    ∙ ap (λ cs. holds rule (λ i. bag_of cs (slot.first_item + i)) (λ p. places_of done (slot.first_place + p))) c.as_slice-counts.ensures.value
    ∙ ap (λ ds. holds rule (λ i. bag_of c.args.tally.now.counts.items (slot.first_item + i)) (λ p. places_of ds (slot.first_place + p))) c.as_slice-done.ensures.value
