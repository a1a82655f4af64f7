use Rattle.std.proofs.Common.{◌≡◌, ◌≤◌, ℕ, ◌+◌, ◌*◌, length, take}
use Rattle.mw_rules.specs.Holds.{bag_of}
use Rattle.mw_multi.specs.Joint.{item_total}
use Rattle.mw_multi.specs.Bags.{start_count, pool_count}
use Rattle.mw_multi.proofs.bag.Bag.with_pools.Given as goal

abbrev pub invariant-loop-slot : goal.invariant-loop-slot
invariant-loop-slot l = record {
  size : length l.bag ≡ item_total l.fn.joint.slots;
  counts : (n : ℕ) → bag_of l.bag n ≡ start_count l.fn.joint.slots n + pool_count (take l.slot-index l.fn.joint.slots) n;
  bound : (n : ℕ) → pool_count (take l.slot-index l.fn.joint.slots) n ≤ 10000 * l.slot-index;
}
