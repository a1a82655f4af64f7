use Rattle.std.proofs.Common.{◌≡◌, ap, subst, ◌∙◌, take_all, arith}
use Rattle.std.specs.Prelude.{sum_by}
use Rattle.mw_multi.specs.Joint.{Link, Joint, IsJoint}
use Rattle.mw_multi.specs.WorldKept.{copies}
use Rattle.mw_fill.specs.Generated.{link_size}
use Rattle.mw_fill.proofs.Few.{one_more, links_are_few}
use Rattle.mw_fill.proofs.generating.link_copies.Goals as goal

pub overflow_add-total : goal.overflow_add-total
overflow_add-total c =
    let joint = c.args.joint.now in
    let links = c.as_slice-link-items.result.now in
    let l = c.link-item.result in
    let same : links ≡ joint.links = c.as_slice-link-items.ensures ∙ ap (λ (j : Joint). j.links) c.joint.view_is in
    let own : c.copies_in-total.result ≡ link_size l = c.copies_in-total.ensures ∙ ap (sum_by copies) (c.as_slice.ensures ∙ ap (λ (k : Link). k.copies) c.link.view_is) in
    omega (
      arith,
      c.loop-link.invariant,
      own,
      one_more link_size links c.loop-link.link-index l c.loop-link-test.true c.link-item.is,
      ap (sum_by link_size) same,
      links_are_few joint (subst IsJoint c.joint.view_is c.joint.invariant),
    )

pub returns-clause-few : goal.returns-clause-few
returns-clause-few c =
    let joint = c.args.joint.now in
    let links = c.as_slice-link-items.result.now in
    let same : links ≡ joint.links = c.as_slice-link-items.ensures ∙ ap (λ (j : Joint). j.links) c.joint.view_is in
    omega (
      arith,
      c.loop-link.invariant,
      ap (sum_by link_size) (take_all c.loop-link.link-index links c.loop-link-test.false ∙ same),
      links_are_few joint (subst IsJoint c.joint.view_is c.joint.invariant),
    )
