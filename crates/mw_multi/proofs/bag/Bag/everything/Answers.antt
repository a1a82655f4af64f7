use Rattle.std.proofs.Common.{◌≡◌, List, ◌+◌, ◌≤◌, ◌∙◌, sym, ap, subst, take, arith}
use Rattle.std.specs.Prelude.{sum_by}
use Rattle.std.proofs.lemmas.List.Sums.{sum_by_more_le}
use Rattle.mw_multi.specs.Joint.{Link, Joint, IsJoint, link_copies}
use Rattle.mw_multi.proofs.Counts.{start_bound, pool_bound}
use Rattle.mw_multi.proofs.bag.Bag.everything.Goals as goal

pub add_link-requires-clause-room : goal.add_link-requires-clause-room
add_link-requires-clause-room c = λ n.
    let joint = c.args.joint.now in
    let kept = subst IsJoint c.joint.view_is c.joint.invariant in
    let items = c.as_slice-link-items.result.now in
    let i = c.loop-link.link-index in
    let links : items ≡ joint.links = c.as_slice-link-items.ensures ∙ ap (λ (j : Joint). j.links) c.joint.view_is in
    let next : sum_by link_copies (take i joint.links) + link_copies c.link-item.result ≤ sum_by link_copies joint.links =
    subst (λ (ls : List Link). sum_by link_copies (take i ls) + link_copies c.link-item.result ≤ sum_by link_copies ls) links
    (subst (λ l. sum_by link_copies (take i items) + link_copies l ≤ sum_by link_copies items) (sym c.link-item.is) (sum_by_more_le link_copies items i c.link-item.result c.loop-link-test.true)) in
    omega (arith, c.loop-link.invariant.counts n, c.loop-link.invariant.bound n, next, kept.together, kept.few, start_bound joint.slots n kept.each, pool_bound joint.slots n)
