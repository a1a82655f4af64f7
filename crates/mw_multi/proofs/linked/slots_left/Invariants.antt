use Rattle.std.proofs.Common.{◌≡◌, ◌+◌, ◌++◌, drop, length}
use Rattle.std.specs.Vec.Iter.{into_iter_items}
use Rattle.mw_multi.specs.Links.{each_with_left}
use Rattle.mw_multi.proofs.linked.slots_left.Given as goal

-- the slots that are left come after those that are done
abbrev pub invariant-loop-slot : goal.invariant-loop-slot
invariant-loop-slot l = record {
  done : l.done ++ each_with_left (drop l.at l.left) (into_iter_items l.slot-iterator) ≡ each_with_left l.initial.left l.fn.slots;
  size : length l.left ≡ l.at + length (into_iter_items l.slot-iterator);
}
