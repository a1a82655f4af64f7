use Rattle.std.proofs.Common.{◌≡◌, ◌++◌, List, length, get_or, sym, ap, ap₂, subst, ◌∙◌, append-nil, arith, false, true, replicate}
use Rattle.std.specs.Prelude.{OnOk, []}
use Rattle.mw_multi.specs.World.{World, Item, PoolEntry}
use Rattle.mw_multi.specs.Joint.{Slot}
use Rattle.mw_fill.specs.Copies.{ItemCopy, is_of, copy_of, entry_copies}
use Rattle.mw_fill.proofs.Pools.{entry_is}
use Rattle.mw_fill.proofs.copies.push_entry.Goals as goal

pub returns-then-not-has : goal.returns-then-not-has
returns-then-not-has c =
    let a = c.args in
    let items : c.as_slice.result.now ≡ a.slot.now.world.items = c.as_slice.ensures ∙ ap (λ (w : World). w.items) (c.world.view_is ∙ ap (λ (s : Slot). s.world) c.slot.view_is) in
    let none : entry_copies a.group a.many a.number a.slot.now a.entry ≡ [] =
    entry_is a.group a.many a.number a.slot.now a.entry c.as_slice.result.now c.index-as_slice-entry.result false items (omega (arith, ap length items, c.requires.item)) (c.index-as_slice-entry.is ∙ ap (λ k. get_or c.as_slice.result.now k c.index-as_slice-entry.result) (ap (λ (e : PoolEntry). e.item) c.entry.view_is))
    (sym c.if-not-has.true ∙ c.has.ensures ∙ ap (λ (i : Item). is_of a.group i.class) c.item.view_is) in
    sym (append-nil a.copies.now) ∙ ap (λ more. a.copies.now ++ more) (sym none)

pub returns : goal.returns
returns c =
    let a = c.args in
    let items : c.as_slice.result.now ≡ a.slot.now.world.items = c.as_slice.ensures ∙ ap (λ (w : World). w.items) (c.world.view_is ∙ ap (λ (s : Slot). s.world) c.slot.view_is) in
    let some : entry_copies a.group a.many a.number a.slot.now a.entry ≡ replicate a.entry.count (copy_of a.many a.number a.slot.now a.entry.item) =
    entry_is a.group a.many a.number a.slot.now a.entry c.as_slice.result.now c.index-as_slice-entry.result true items (omega (arith, ap length items, c.requires.item)) (c.index-as_slice-entry.is ∙ ap (λ k. get_or c.as_slice.result.now k c.index-as_slice-entry.result) (ap (λ (e : PoolEntry). e.item) c.entry.view_is))
    (sym c.if-not-has.false ∙ c.has.ensures ∙ ap (λ (i : Item). is_of a.group i.class) c.item.view_is) in
    let copy : c.copy_of.result ≡ copy_of a.many a.number a.slot.now a.entry.item = c.copy_of.ensures ∙ ap (λ (e : PoolEntry). copy_of a.many a.number a.slot.now e.item) c.entry.view_is in
    let pushed : replicate c.entry.inside.count c.copy_of.result ≡ entry_copies a.group a.many a.number a.slot.now a.entry = ap₂ replicate (ap (λ (e : PoolEntry). e.count) c.entry.view_is) copy ∙ sym some in
    subst (λ (more : List ItemCopy). OnOk c.push_copies.result (c.push_copies.new.copies ≡ a.copies.now ++ more)) pushed c.push_copies.ensures
