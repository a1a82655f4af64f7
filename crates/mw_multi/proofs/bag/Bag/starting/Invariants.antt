use Rattle.std.proofs.Common.{◌≡◌, ◌≤◌, ℕ, ◌*◌, length, take}
use Rattle.mw_rules.specs.Holds.{bag_of}
use Rattle.mw_multi.specs.Joint.{item_total}
use Rattle.mw_multi.specs.Bags.{start_count}
use Rattle.mw_multi.proofs.bag.Bag.starting.Given as goal

abbrev pub invariant-loop-slot : goal.invariant-loop-slot
invariant-loop-slot l = record {
  size : length l.bag ≡ item_total l.fn.joint.slots;
  counts : (n : ℕ) → bag_of l.bag n ≡ start_count (take l.slot-index l.fn.joint.slots) n;
  bound : (n : ℕ) → bag_of l.bag n ≤ 256 * l.slot-index;
}
