use Rattle.std.proofs.Common.{◌≡◌, ◌++◌, ◌+◌, take, ap, ◌∙◌, append_assoc, arith, sym}
use Rattle.mw_multi.specs.Numbered.{each_numbered}
use Rattle.mw_fill.specs.Openings.{opening_at}
use Rattle.mw_multi.proofs.Numbered.{numbered_more}
use Rattle.mw_fill.proofs.openings.push_slot.Goals as goal

pub loop-index-preserved : goal.loop-index-preserved
loop-index-preserved c =
    let a = c.args in
    let i = c.loop-index.index in
    let items = c.as_slice-location-items.result.now in
    let front = each_numbered (opening_at a.number a.slot.now) 0 (take i items) in
    let at : 0 + i ≡ i = omega arith in
    let more = numbered_more (opening_at a.number a.slot.now) 0 items i c.location-item.result c.loop-index-test.true c.location-item.is in
    c.in_ok-push_opening.ensures ∙ ap (λ openings. openings ++ opening_at a.number a.slot.now i c.location-item.result) c.loop-index.invariant
    ∙ append_assoc a.openings.now front (opening_at a.number a.slot.now i c.location-item.result)
    ∙ ap (λ openings. a.openings.now ++ openings) (ap (λ n. front ++ opening_at a.number a.slot.now n c.location-item.result) (sym at) ∙ sym more)
