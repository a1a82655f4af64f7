use Rattle.std.proofs.Common.{◌≡◌, take}
use Rattle.mw_multi.specs.Labels.{item_labels}
use Rattle.mw_multi.proofs.names.labels_of_items.Given as goal

abbrev pub invariant-loop-item : goal.invariant-loop-item
invariant-loop-item l = l.labels ≡ item_labels (take l.item-index l.items)
