use Rattle.std.proofs.Common.{◌≡◌, ◌≤◌, ℕ, ◌+◌, ◌*◌, length, take}
use Rattle.std.specs.Prelude.{sum_by}
use Rattle.mw_rules.specs.Holds.{bag_of}
use Rattle.mw_multi.specs.WorldKept.{copies}
use Rattle.mw_multi.specs.Bags.{member_count}
use Rattle.mw_multi.proofs.bag.add_link.Given as goal

abbrev pub invariant-loop-member : goal.invariant-loop-member
invariant-loop-member l = record {
  size : length l.bag ≡ length l.fn.bag;
  counts : (n : ℕ) → bag_of l.bag n ≡ bag_of l.fn.bag n + sum_by (member_count l.joint.slots n l.link.copies) (take l.member-index l.link.members);
  bound : (n : ℕ) → sum_by (member_count l.joint.slots n l.link.copies) (take l.member-index l.link.members) ≤ l.member-index * sum_by copies l.link.copies;
}
