use Rattle.std.proofs.Common.{◌≡◌, drop}
use Rattle.std.specs.List.{list_all}
use Rattle.mw_rules.specs.Holds.{bag_of, has_one}
use Rattle.mw_rules.proofs.judge.has_all.Given as goal

-- the items that are left decide
abbrev pub invariant-loop-item : goal.invariant-loop-item
invariant-loop-item l = list_all (has_one (bag_of l.counts)) l.items ≡ list_all (has_one (bag_of l.counts)) (drop l.item-index l.items)
