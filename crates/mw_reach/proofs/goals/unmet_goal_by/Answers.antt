use Rattle.std.proofs.Common.{◌≡◌, ◌+◌, ◌<◌, ◌≤◌, length, take, refl, sym, ap, subst, ◌∙◌, arith}
use Rattle.std.specs.Prelude.{flat_map}
use Rattle.std.proofs.lemmas.List.{length-append}
use Rattle.mw_rules.specs.Holds.{bag_of}
use Rattle.mw_multi.specs.Joint.{Joint, IsJoint}
use Rattle.mw_multi.specs.Steps.{slot_rules}
use Rattle.mw_reach.specs.Reached.{counts_in, flags_in, places_in}
use Rattle.mw_reach.proofs.Slots.{flat_more}
use Rattle.mw_reach.proofs.Beating.{known_goal, goal_judged, some_rules, next_met, next_unmet}
use Rattle.mw_reach.proofs.goals.unmet_goal_by.Goals as goal

pub holds-requires-clause-rule : goal.holds-requires-clause-rule
holds-requires-clause-rule g c =
    let joint = c.args.joint.now in
    let slots = c.as_slice-slot-items.ensures ∙ ap (λ (j : Joint). j.slots) c.joint.view_is in
    (known_goal joint (subst IsJoint c.joint.view_is c.joint.invariant) c.loop-index.index c.slot-item.result c.as_slice-slot-items.result.now slots c.loop-index-test.true c.slot-item.is c.loop-index.first_rule c.rule_count.result c.loop-index.invariant.rule c.rule_count.ensures.value).fits

pub holds-requires-clause-places : goal.holds-requires-clause-places
holds-requires-clause-places g c =
    let joint = c.args.joint.now in
    let slots = c.as_slice-slot-items.ensures ∙ ap (λ (j : Joint). j.slots) c.joint.view_is in
    let known = known_goal joint (subst IsJoint c.joint.view_is c.joint.invariant) c.loop-index.index c.slot-item.result c.as_slice-slot-items.result.now slots c.loop-index-test.true c.slot-item.is c.loop-index.first_rule c.rule_count.result c.loop-index.invariant.rule c.rule_count.ensures.value in
    known.places

pub holds-requires-clause-items : goal.holds-requires-clause-items
holds-requires-clause-items g c =
    let joint = c.args.joint.now in
    let slots = c.as_slice-slot-items.ensures ∙ ap (λ (j : Joint). j.slots) c.joint.view_is in
    let known = known_goal joint (subst IsJoint c.joint.view_is c.joint.invariant) c.loop-index.index c.slot-item.result c.as_slice-slot-items.result.now slots c.loop-index-test.true c.slot-item.is c.loop-index.first_rule c.rule_count.result c.loop-index.invariant.rule c.rule_count.ensures.value in
    known.items

pub holds-requires-clause-within : goal.holds-requires-clause-within
holds-requires-clause-within g c =
    let joint = c.args.joint.now in
    let slots = c.as_slice-slot-items.ensures ∙ ap (λ (j : Joint). j.slots) c.joint.view_is in
    (known_goal joint (subst IsJoint c.joint.view_is c.joint.invariant) c.loop-index.index c.slot-item.result c.as_slice-slot-items.result.now slots c.loop-index-test.true c.slot-item.is c.loop-index.first_rule c.rule_count.result c.loop-index.invariant.rule c.rule_count.ensures.value).within

pub returns-then-not-holds-clause-slot : goal.returns-then-not-holds-clause-slot
returns-then-not-holds-clause-slot g c =
    let joint = c.args.joint.now in
    let reached = c.args.reached.now in
    let i = c.loop-index.index in
    let slots = c.as_slice-slot-items.ensures ∙ ap (λ (j : Joint). j.slots) c.joint.view_is in
    let known = known_goal joint (subst IsJoint c.joint.view_is c.joint.invariant) i c.slot-item.result c.as_slice-slot-items.result.now slots c.loop-index-test.true c.slot-item.is c.loop-index.first_rule c.rule_count.result c.loop-index.invariant.rule c.rule_count.ensures.value in
    let judged = goal_judged joint i _ known (counts_in reached) (counts_in reached) (flags_in reached) (flags_in reached) refl refl c.holds.result c.holds.ensures.answer in
    next_unmet joint i (subst (λ ss. i < length ss) slots c.loop-index-test.true) (bag_of (counts_in reached)) (places_in reached) (sym judged ∙ c.if-not-holds.true) ∙ c.loop-index.invariant.unmet

pub loop-index-preserved : goal.loop-index-preserved
loop-index-preserved g c =
    let joint = c.args.joint.now in
    let reached = c.args.reached.now in
    let i = c.loop-index.index in
    let slot = c.slot-item.result in
    let slots = c.as_slice-slot-items.ensures ∙ ap (λ (j : Joint). j.slots) c.joint.view_is in
    let within : i < length joint.slots = subst (λ ss. i < length ss) slots c.loop-index-test.true in
    let known = known_goal joint (subst IsJoint c.joint.view_is c.joint.invariant) i slot c.as_slice-slot-items.result.now slots c.loop-index-test.true c.slot-item.is c.loop-index.first_rule c.rule_count.result c.loop-index.invariant.rule c.rule_count.ensures.value in
    let judged = goal_judged joint i _ known (counts_in reached) (counts_in reached) (flags_in reached) (flags_in reached) refl refl c.holds.result c.holds.ensures.answer in
    let rules : length (flat_map slot_rules (take i joint.slots)) + length (slot_rules slot) ≡ length (flat_map slot_rules (take (i + 1) joint.slots)) =
    sym (length-append (flat_map slot_rules (take i joint.slots)) (slot_rules slot)) ∙ ap length (flat_more slot_rules joint.slots i slot within (rw slots at c.slot-item.is)) in
    let some : 1 ≤ length (slot_rules slot) = some_rules slot in
    record {
      rule = omega (arith, c.loop-index.invariant.rule, c.rule_count.ensures.value, rules);
      few_rules = omega (arith, c.loop-index.invariant.few_rules, c.rule_count.ensures.few, c.rule_count.ensures.value);
      unmet = next_met joint i within (bag_of (counts_in reached)) (places_in reached) (sym judged ∙ c.if-not-holds.false) ∙ c.loop-index.invariant.unmet;
      steps = omega (arith, c.loop-index.invariant.steps, c.holds.ensures.steps);
    }
