use Rattle.std.proofs.Common.{◌≡◌, ◌++◌, map, take}
use Rattle.mw_reach.specs.Split.{location_always}
use Rattle.mw_reach.proofs.always.push_locations.Given as goal

abbrev pub invariant-loop-location : goal.invariant-loop-location
invariant-loop-location l = l.free ≡ l.fn.free ++ map location_always (take l.location-index l.locations)
