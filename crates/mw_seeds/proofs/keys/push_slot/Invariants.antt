use Rattle.std.proofs.Common.{◌≡◌, ◌++◌, take}
use Rattle.mw_multi.specs.Numbered.{each_numbered}
use Rattle.mw_seeds.specs.Keys.{location_key}
use Rattle.mw_seeds.proofs.keys.push_slot.Given as goal

abbrev pub invariant-loop-location : goal.invariant-loop-location
invariant-loop-location l = l.keys.items ≡ l.fn.keys.items ++ each_numbered (location_key l.slot) 0 (take l.location-index l.locations)
