use Rattle.std.proofs.Common.{◌≡◌, ◌∙◌, None, Some, length, map, ap, rules, subst, sym}
use Rattle.mw_model.specs.Seed.{Seed}
use Rattle.mw_multi.specs.Joint.{Joint, IsJoint}
use Rattle.mw_multi.specs.Numbered.{each_numbered}
use Rattle.mw_multidata.specs.SeedKept.{IsSeed}
use Rattle.mw_seeds.specs.Agreeing.{link_members, group_members, LinksAgree, IsFirstDifference}
use Rattle.mw_seeds.specs.FilePuts.{slot_puts}
use Rattle.mw_seeds.specs.Judging.{IsPlacementIn}
use Rattle.mw_seeds.specs.Keys.{Key, AreKeys, first_other_key}
use Rattle.mw_seeds.proofs.Agreed.{placed_at, difference_at}
use Rattle.mw_seeds.proofs.agreeing.placement_in.Goals as goal

pub returns-in-None-clause-ok : goal.returns-in-None-clause-ok
returns-in-None-clause-ok c =
    let joint = c.args.joint.now in
    let seed = subst IsSeed c.file.view_is c.file.invariant in
    let groups = c.as_slice.ensures ∙ ap (λ (s : Seed). s.groups) c.file.view_is in
    let shared = c.as_slice-2.ensures ∙ ap (λ (j : Joint). j.links) c.joint.view_is in
    let links : LinksAgree joint c.args.file.now = sym (ap (map group_members) groups) ∙ c.links_agree.ensures.0 c.if-not-links_agree.false ∙ ap (map link_members) shared in
    let held = c.as_slice-held.ensures ∙ ap (λ (s : Seed). s.locations) c.file.view_is in
    let tables = c.as_slice-3.ensures ∙ c.in_ok-catalogs.ensures in
    let put_tables = c.as_slice-in-None.ensures ∙ c.in_ok-catalogs.ensures in
    let slots = c.len-slots.ensures ∙ ap (λ (j : Joint). length j.slots) c.joint.view_is in
    let many = c.len-many.ensures ∙ ap (λ (s : Seed). length s.slots) c.file.view_is in
    let none : first_other_key c.as_slice-3.result.now c.len-slots.result c.len-many.result c.as_slice-4.result.now c.as_slice-held.result.now ≡ None = sym c.first_other.ensures ∙ search rules in
    subst (IsPlacementIn joint c.args.file.now) (sym (c.in_ok-puts-in-None.ensures ∙ ap (λ cs. each_numbered (slot_puts cs c.as_slice-held.result.now) 1 joint.slots) put_tables))
    (placed_at joint (subst IsJoint c.joint.view_is c.joint.invariant) c.args.file.now seed.locations.ascend links c.as_slice-4.result.now (subst (AreKeys joint.slots) (sym c.as_slice-4.ensures) c.in_ok-keys.ensures)
    c.as_slice-3.result.now tables c.len-slots.result slots c.len-many.result many c.as_slice-held.result.now held none)

pub returns-clause-err : goal.returns-clause-err
returns-clause-err c =
    let joint = c.args.joint.now in
    let seed = subst IsSeed c.file.view_is c.file.invariant in
    let groups = c.as_slice.ensures ∙ ap (λ (s : Seed). s.groups) c.file.view_is in
    let shared = c.as_slice-2.ensures ∙ ap (λ (j : Joint). j.links) c.joint.view_is in
    let links : LinksAgree joint c.args.file.now = sym (ap (map group_members) groups) ∙ c.links_agree.ensures.0 c.if-not-links_agree.false ∙ ap (map link_members) shared in
    let held = c.as_slice-held.ensures ∙ ap (λ (s : Seed). s.locations) c.file.view_is in
    let tables = c.as_slice-3.ensures ∙ c.in_ok-catalogs.ensures in
    let slots = c.len-slots.ensures ∙ ap (λ (j : Joint). length j.slots) c.joint.view_is in
    let many = c.len-many.ensures ∙ ap (λ (s : Seed). length s.slots) c.file.view_is in
    let some : first_other_key c.as_slice-3.result.now c.len-slots.result c.len-many.result c.as_slice-4.result.now c.as_slice-held.result.now ≡ Some c.in-Some.key = sym c.first_other.ensures ∙ search rules in
    subst (λ (k : Key). IsFirstDifference joint c.args.file.now k.slot k.location) (sym c.key.view_is)
    (difference_at joint (subst IsJoint c.joint.view_is c.joint.invariant) c.args.file.now seed.locations.ascend links c.as_slice-4.result.now (subst (AreKeys joint.slots) (sym c.as_slice-4.ensures) c.in_ok-keys.ensures)
    c.as_slice-3.result.now tables c.len-slots.result slots c.len-many.result many c.as_slice-held.result.now held c.in-Some.key some)
