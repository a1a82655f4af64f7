use Rattle.std.proofs.Common.{◌≡◌, ◌++◌, map, take}
use Rattle.mw_multi.specs.Events.{lacks_event}
use Rattle.mw_multi.proofs.events.push_locations.Given as goal

abbrev pub invariant-loop-location : goal.invariant-loop-location
invariant-loop-location l = l.flags.items ≡ l.fn.flags.items ++ map lacks_event (take l.location-index l.locations)
