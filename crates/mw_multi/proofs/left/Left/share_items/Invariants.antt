use Rattle.std.proofs.Common.{◌≡◌, ◌++◌, drop}
use Rattle.mw_multi.specs.Links.{shared_copies, left_by_items}
use Rattle.mw_multi.proofs.left.Left.share_items.Given as goal

abbrev pub invariant-loop-item : goal.invariant-loop-item
invariant-loop-item l = record {
  copies : l.copies ++ shared_copies l.self l.members (drop l.item-index l.items) ≡ shared_copies l.fn.self l.members l.items;
  left : left_by_items l.self l.members (drop l.item-index l.items) ≡ left_by_items l.fn.self l.members l.items;
}
