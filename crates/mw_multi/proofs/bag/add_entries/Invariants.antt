use Rattle.std.proofs.Common.{◌≡◌, ℕ, ◌+◌, length, take}
use Rattle.mw_rules.specs.Holds.{bag_of}
use Rattle.mw_multi.specs.Bags.{entries_count}
use Rattle.mw_multi.proofs.bag.add_entries.Given as goal

abbrev pub invariant-loop-entry : goal.invariant-loop-entry
invariant-loop-entry l = record {
  size : length l.bag ≡ length l.fn.bag;
  counts : (n : ℕ) → bag_of l.bag n ≡ bag_of l.fn.bag n + entries_count l.first_item (take l.entry-index l.entries) n;
}
