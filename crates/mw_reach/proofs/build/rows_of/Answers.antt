use Rattle.std.proofs.Common.{◌≡◌, ◌≤◌, ◌+◌, ◌*◌, ◌++◌, get_or, length, take, sym, ap, subst, arith, ◌∙◌}
use Rattle.std.specs.Prelude.{flat_map}
use Rattle.std.proofs.lemmas.List.{length-append}
use Rattle.mw_multi.specs.Joint.{IsJoint}
use Rattle.mw_multi.specs.Steps.{slot_rules, slot_steps, rule_list}
use Rattle.mw_reach.specs.Building.{HasRules}
use Rattle.mw_reach.proofs.Slots.{slot_fits, slot_rules_there, flat_more}
use Rattle.mw_reach.proofs.build.rows_of.Goals as goal

pub add_slot-requires-clause-slot : goal.add_slot-requires-clause-slot
add_slot-requires-clause-slot g c =
    let joint = c.args.joint.now in
    let kept : IsJoint joint = subst IsJoint c.joint.view_is c.joint.invariant in
    let slots : c.as_slice-slot-items.result.now ≡ joint.slots = c.as_slice-slot-items.ensures ∙ ap (λ j. j.slots) c.joint.view_is in
    slot_fits joint kept c.loop-i.i c.slot-item.result (rw slots at c.loop-i-test.true) (rw slots at c.slot-item.is)

pub add_slot-requires-clause-numbers : goal.add_slot-requires-clause-numbers
add_slot-requires-clause-numbers g c =
    let joint = c.args.joint.now in
    let i = c.loop-i.i in
    let slot = c.slot-item.result in
    let slots : c.as_slice-slot-items.result.now ≡ joint.slots = c.as_slice-slot-items.ensures ∙ ap (λ j. j.slots) c.joint.view_is in
    let here : slot ≡ get_or joint.slots i slot = rw slots at c.slot-item.is in
    let there : HasRules (rule_list joint) (length (flat_map slot_rules (take i joint.slots))) (slot_rules slot) =
    subst (λ s. HasRules (rule_list joint) (length (flat_map slot_rules (take i joint.slots))) (slot_rules s)) (sym here) (slot_rules_there joint.slots i slot (rw slots at c.loop-i-test.true)) in
    subst (λ n. HasRules (rule_list joint) n (slot_rules slot)) (sym c.loop-i.invariant.rule) there

pub loop-i-preserved : goal.loop-i-preserved
loop-i-preserved g c =
    let joint = c.args.joint.now in
    let i = c.loop-i.i in
    let slot = c.slot-item.result in
    let slots : c.as_slice-slot-items.result.now ≡ joint.slots = c.as_slice-slot-items.ensures ∙ ap (λ j. j.slots) c.joint.view_is in
    let here : slot ≡ get_or joint.slots i slot = rw slots at c.slot-item.is in
    let within = rw slots at c.loop-i-test.true in
    let before = c.loop-i.invariant in
    let rules : length (flat_map slot_rules (take i joint.slots)) + length (slot_rules slot) ≡ length (flat_map slot_rules (take (i + 1) joint.slots)) =
    sym (length-append (flat_map slot_rules (take i joint.slots)) (slot_rules slot)) ∙ ap length (flat_more slot_rules joint.slots i slot within here) in
    let few : length c.add_slot.new.rows.rows ≤ 20001 * (i + 1) = omega (arith, c.in_ok-add_slot.ensures.many, c.rule_count-rule.ensures.value, c.rule_count-rule.ensures.few, before.few_rows) in
    record {
      kept = c.in_ok-add_slot.ensures.kept;
      steps = c.in_ok-add_slot.ensures.steps ∙ ap (λ ss. ss ++ slot_steps slot) before.steps ∙ flat_more slot_steps joint.slots i slot within here;
      rule = omega (arith, before.rule, c.rule_count-rule.ensures.value, rules);
      few_rules = omega (arith, before.few_rules, c.rule_count-rule.ensures.few);
      few_rows = few;
    }
