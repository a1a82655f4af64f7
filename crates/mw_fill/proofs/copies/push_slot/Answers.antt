use Rattle.std.proofs.Common.{◌≡◌, All, sym, subst}
use Rattle.std.specs.Prelude.{slice_get}
use Rattle.mw_multi.specs.Joint.{SlotKept, CopiesKept}
use Rattle.mw_fill.proofs.Pools.{some_item, item_within}
use Rattle.mw_fill.proofs.copies.push_slot.Goals as goal

pub push_entry-requires : goal.push_entry-requires
push_entry-requires c =
    let s = c.args.slot.now in
    let kept : SlotKept s = subst SlotKept c.slot.view_is c.slot.invariant in
    let e = c.entry-item.result in
    let all : All (CopiesKept s.world.items) c.pool-entry-items.result.now = subst (All (CopiesKept s.world.items)) (sym c.pool-entry-items.ensures) kept.pool.each in
    let there : CopiesKept s.world.items e = subst (CopiesKept s.world.items) (sym c.entry-item.is) (all c.loop-entry.entry-index e c.loop-entry-test.true) in
    record { item = item_within s.world.items e.item (some_item (slice_get s.world.items e.item) there.item) }
