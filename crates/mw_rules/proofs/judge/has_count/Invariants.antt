use Rattle.std.proofs.Common.{◌≡◌, ◌-◌, drop}
use Rattle.mw_rules.specs.Holds.{bag_of, total}
use Rattle.mw_rules.proofs.judge.has_count.Given as goal

-- what is missing, less the items that are left, is what would be missing in the end
abbrev pub invariant-loop-item : goal.invariant-loop-item
invariant-loop-item l = l.missing - total (bag_of l.counts) (drop l.item-index l.items) ≡ l.at_least - total (bag_of l.counts) l.items
