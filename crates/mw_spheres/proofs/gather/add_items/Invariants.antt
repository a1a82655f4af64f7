use Rattle.std.proofs.Common.{◌≡◌, ℕ, ◌+◌, length, take}
use Rattle.mw_rules.specs.Holds.{bag_of}
use Rattle.mw_reach.specs.Reach.{times_in}
use Rattle.mw_spheres.proofs.gather.add_items.Given as goal

abbrev pub invariant-loop-item : goal.invariant-loop-item
invariant-loop-item l = record {
  size : length l.bag ≡ length l.fn.bag;
  counts : (i : ℕ) → bag_of l.bag i ≡ bag_of l.fn.bag i + times_in i (take l.item-index l.items);
}
