use Rattle.std.proofs.Common.{◌≡◌, ◌≤◌, ◌*◌, take, map}
use Rattle.std.specs.Prelude.{sum_by}
use Rattle.mw_multi.specs.WorldKept.{item_name}
use Rattle.mw_multi.specs.JointOf.{name_text}
use Rattle.mw_multi.proofs.text.items_in.Given as goal

abbrev pub invariant-loop-item : goal.invariant-loop-item
invariant-loop-item l = record {
  value : l.total ≡ sum_by name_text (map item_name (take l.item-index l.items));
  bound : l.total ≤ 539 * l.item-index;
}
