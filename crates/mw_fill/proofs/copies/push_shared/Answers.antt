use Rattle.std.proofs.Common.{◌≡◌, ◌++◌, get_or, sym, ap, ◌∙◌, append-nil, false, true}
use Rattle.std.specs.Prelude.{[]}
use Rattle.mw_multi.specs.World.{Item, PoolEntry}
use Rattle.mw_fill.specs.Copies.{is_of, shared_copies}
use Rattle.mw_fill.proofs.Pools.{shared_is}
use Rattle.mw_fill.proofs.copies.push_shared.Goals as goal

pub returns-then-not-has : goal.returns-then-not-has
returns-then-not-has c =
    let a = c.args in
    let item = c.index-items-entry.result in
    let none : shared_copies a.group a.items.now a.number a.entry ≡ [] =
    shared_is a.group a.items.now a.number a.entry item false c.requires.item (c.index-items-entry.is ∙ ap (λ k. get_or a.items.now k item) (ap (λ (e : PoolEntry). e.item) c.entry.view_is))
    (sym c.if-not-has.true ∙ c.has.ensures ∙ ap (λ (i : Item). is_of a.group i.class) c.item.view_is) in
    sym (append-nil a.copies.now) ∙ ap (λ more. a.copies.now ++ more) (sym none)
