use Rattle.std.proofs.Common.{◌≡◌, ◌++◌, ◌+◌, suc, length, take, ap, sym, ◌∙◌, append_assoc, arith}
use Rattle.mw_multi.specs.Joint.{Joint}
use Rattle.mw_multi.specs.Numbered.{each_numbered}
use Rattle.mw_multi.proofs.Numbered.{numbered_more}
use Rattle.mw_fill.specs.Copies.{link_copies}
use Rattle.mw_fill.proofs.copies.push_links.Goals as goal

pub loop-index-preserved : goal.loop-index-preserved
loop-index-preserved c =
    let a = c.args in
    let i = c.loop-index.index in
    let links = c.as_slice-link-items.result.now in
    let slots = a.joint.now.slots in
    let f = link_copies a.group slots in
    let l = c.link-item.result in
    let front = each_numbered f (suc (length slots)) (take i links) in
    let many : c.len-slots.result ≡ length slots = c.len-slots.ensures ∙ ap (λ (j : Joint). length j.slots) c.joint.view_is in
    let at : c.len-slots.result + i + 1 ≡ suc (length slots) + i = omega (arith, many) in
    c.in_ok-push_link.ensures ∙ ap (λ copies. copies ++ f (c.len-slots.result + i + 1) l) c.loop-index.invariant ∙ append_assoc a.copies.now front (f (c.len-slots.result + i + 1) l)
    ∙ ap (λ copies. a.copies.now ++ copies) (ap (λ n. front ++ f n l) at ∙ sym (numbered_more f (suc (length slots)) links i l c.loop-index-test.true c.link-item.is))
