use Rattle.std.proofs.Common.{◌≡◌, ℕ, ◌+◌, take}
use Rattle.mw_rules.specs.Holds.{bag_of}
use Rattle.mw_reach.specs.Reach.{times_in}
use Rattle.mw_reach.proofs.tally.count_items.Given as goal

-- the items so far
abbrev pub invariant-loop-item : goal.invariant-loop-item
invariant-loop-item l = (i : ℕ) → bag_of l.counts i ≡ bag_of l.initial.counts i + times_in i (take l.item-index l.items)
