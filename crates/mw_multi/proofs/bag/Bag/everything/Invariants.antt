use Rattle.std.proofs.Common.{◌≡◌, ◌≤◌, ℕ, ◌+◌, length, take}
use Rattle.std.specs.Prelude.{sum_by}
use Rattle.mw_rules.specs.Holds.{bag_of}
use Rattle.mw_multi.specs.Joint.{item_total, link_copies}
use Rattle.mw_multi.specs.Bags.{start_count, pool_count, link_count}
use Rattle.mw_multi.proofs.bag.Bag.everything.Given as goal

abbrev pub invariant-loop-link : goal.invariant-loop-link
invariant-loop-link l = record {
  size : length l.bag ≡ item_total l.joint.slots;
  counts : (n : ℕ) → bag_of l.bag n ≡ start_count l.joint.slots n + pool_count l.joint.slots n + sum_by (link_count l.joint.slots n) (take l.link-index l.joint.links);
  bound : (n : ℕ) → sum_by (link_count l.joint.slots n) (take l.link-index l.joint.links) ≤ sum_by link_copies (take l.link-index l.joint.links);
}
