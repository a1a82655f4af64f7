use Rattle.std.proofs.Common.{◌≡◌, All, List, [], ◌++◌, ◌≤◌, length, suc, ap, sym, subst, ◌∙◌}
use Rattle.mw_multi.specs.Joint.{IsJoint}
use Rattle.mw_multi.specs.Numbered.{each_numbered}
use Rattle.mw_fill.specs.Kept.{CopyKept}
use Rattle.mw_fill.specs.Copies as plain
use Rattle.mw_fill.specs.Copies.{ItemCopy, slot_copies, link_copies, has_others, all_numbers}
use Rattle.mw_fill.proofs.Few.{copies_are_few, numbers_are_few}
use Rattle.mw_fill.proofs.Pools.{copies_kept}
use Rattle.mw_fill.proofs.copies.copies_of.Goals as goal

pub returns-clause-few : goal.returns-clause-few
returns-clause-few c =
    let joint = c.args.joint.now in
    let links = each_numbered (link_copies c.args.group joint.slots) (suc (length joint.slots)) joint.links in
    let whole : c.push_links.new.copies ≡ plain.copies_of c.args.group joint = c.in_ok-push_links.ensures ∙ ap (λ (cs : List ItemCopy). cs ++ links) (c.in_ok-push_slots.ensures ∙ ap (λ (cs : List ItemCopy). cs ++ each_numbered (slot_copies c.args.group (has_others joint)) 1 joint.slots) c.new-copies.ensures) in
    subst (λ (cs : List ItemCopy). length cs ≤ 10240000) (sym whole) (copies_are_few c.args.group joint (subst IsJoint c.joint.view_is c.joint.invariant))

pub returns-clause-few_numbers : goal.returns-clause-few_numbers
returns-clause-few_numbers c =
    let joint = c.args.joint.now in
    let links = each_numbered (link_copies c.args.group joint.slots) (suc (length joint.slots)) joint.links in
    let whole : c.push_links.new.copies ≡ plain.copies_of c.args.group joint = c.in_ok-push_links.ensures ∙ ap (λ (cs : List ItemCopy). cs ++ links) (c.in_ok-push_slots.ensures ∙ ap (λ (cs : List ItemCopy). cs ++ each_numbered (slot_copies c.args.group (has_others joint)) 1 joint.slots) c.new-copies.ensures) in
    subst (λ (cs : List ItemCopy). length (all_numbers joint cs) ≤ 10240000) (sym whole) (numbers_are_few c.args.group joint (subst IsJoint c.joint.view_is c.joint.invariant))

pub returns-clause-kept : goal.returns-clause-kept
returns-clause-kept c =
    let joint = c.args.joint.now in
    let links = each_numbered (link_copies c.args.group joint.slots) (suc (length joint.slots)) joint.links in
    let whole : c.push_links.new.copies ≡ plain.copies_of c.args.group joint = c.in_ok-push_links.ensures ∙ ap (λ (cs : List ItemCopy). cs ++ links) (c.in_ok-push_slots.ensures ∙ ap (λ (cs : List ItemCopy). cs ++ each_numbered (slot_copies c.args.group (has_others joint)) 1 joint.slots) c.new-copies.ensures) in
    subst (All (CopyKept joint)) (sym whole) (copies_kept c.args.group joint (subst IsJoint c.joint.view_is c.joint.invariant))
