use Rattle.std.proofs.Common.{◌≡◌, ◌+◌, ◌∷◌, drop, suc, is_some, false, ap, sym, ◌∙◌, add-one, drop-cons}
use Rattle.std.proofs.Math.ListN.{drop_of_length-le}
use Rattle.mw_json.specs.View.{view, items_view}
use Rattle.mw_protocol.specs.Operations.{append_items, place_from, lacking}
use Rattle.mw_storage.proofs.Elements.{append_none, found_one}
use Rattle.mw_storage.proofs.lists.lacking.Goals as goal

pub loop-item-preserved : goal.loop-item-preserved
loop-item-preserved c =
    let at = c.loop-item.item-index in
    let more = c.args.more.now in
    let items = items_view c.args.items.now in
    let x = c.item-item.result in
    let front : drop at more ≡ x ∷ drop (at + 1) more =
    drop-cons more at x c.loop-item-test.true ∙ rw add-one (ap (λ y. y ∷ drop (suc at) more) (sym c.item-item.is)) in
    let none : is_some (place_from 0 (view x) items) ≡ false = ap is_some (sym c.place_of.ensures.place) ∙ sym c.is_some.ensures ∙ c.if-is_some.false in
    ap (λ ts. append_items (items_view ts) (lacking items (items_view (drop (at + 1) more)))) c.in_ok-push.ensures.ok
    ∙ found_one items c.loop-item.found x c.in_ok-copy.field-0 (items_view (drop (at + 1) more)) none c.in_ok-copy.ensures
    ∙ ap (λ ts. append_items (items_view c.loop-item.found) (lacking items (items_view ts))) (sym front)
    ∙ c.loop-item.invariant

pub returns : goal.returns
returns c =
    let more = c.args.more.now in
    let items = items_view c.args.items.now in
    let found = items_view c.loop-item.found in
    sym (append_none found)
    ∙ ap (λ ts. append_items found (lacking items (items_view ts))) (sym (drop_of_length-le more c.loop-item-test.false))
    ∙ c.loop-item.invariant
