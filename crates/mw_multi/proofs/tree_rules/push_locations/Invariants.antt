use Rattle.std.proofs.Common.{◌≡◌, ◌++◌, map, take}
use Rattle.mw_multi.specs.Steps.{location_rule}
use Rattle.mw_multi.proofs.tree_rules.push_locations.Given as goal

abbrev pub invariant-loop-location : goal.invariant-loop-location
invariant-loop-location l = l.trees ≡ l.fn.trees ++ map location_rule (take l.location-index l.locations)
