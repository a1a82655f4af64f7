use Rattle.std.proofs.Common.{◌≡◌, ◌++◌, length, take}
use Rattle.std.specs.Int.{w32, to_be_bytes}
use Rattle.std.specs.List.{flat_map, AllByRecursion}
use Rattle.mw_protocol.specs.Spelled.{location_bytes, IsLocation}
use Rattle.mw_records.proofs.encoding.put_locations.Given as goal

-- the number, and the locations so far
abbrev pub invariant-loop-location : goal.invariant-loop-location
invariant-loop-location l = record {
  bytes : l.out.items ≡ l.fn.out.items ++ to_be_bytes w32 (length l.locations) ++ flat_map location_bytes (take l.location-index l.locations);
  each : AllByRecursion IsLocation (take l.location-index l.locations);
}
