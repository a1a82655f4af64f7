use Rattle.std.proofs.Common.{◌≡◌, ◌++◌, ◌+◌, length, take, ap, sym, ◌∙◌, append_assoc, arith}
use Rattle.std.specs.Prelude.{nat_lt}
use Rattle.mw_multi.specs.Numbered.{each_numbered}
use Rattle.mw_fill.specs.Copies.{slot_copies}
use Rattle.mw_multi.proofs.Numbered.{numbered_more}
use Rattle.mw_fill.proofs.copies.push_slots.Goals as goal

pub loop-index-preserved : goal.loop-index-preserved
loop-index-preserved c =
    let i = c.loop-index.index in
    let slots = c.as_slice-slots.result.now in
    let f = slot_copies c.args.group (nat_lt 1 (length slots)) in
    let s = c.index-slots-index.result in
    let front = each_numbered f 1 (take i slots) in
    let at : 1 + i ≡ i + 1 = omega arith in
    c.in_ok-push_slot.ensures ∙ ap (λ copies. copies ++ f (i + 1) s) c.loop-index.invariant ∙ append_assoc c.args.copies.now front (f (i + 1) s)
    ∙ ap (λ copies. c.args.copies.now ++ copies) (ap (λ n. front ++ f n s) (sym at) ∙ sym (numbered_more f 1 slots i s c.loop-index-test.true c.index-slots-index.is))
