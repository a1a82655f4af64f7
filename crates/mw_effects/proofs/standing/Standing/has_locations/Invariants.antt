use Rattle.std.proofs.Common.{◌≡◌, drop}
use Rattle.mw_protocol.specs.Named.{has_locations}
use Rattle.mw_effects.proofs.standing.Standing.has_locations.Given as goal

-- those that were passed are the slot's
abbrev pub invariant-loop-location : goal.invariant-loop-location
invariant-loop-location l = has_locations l.self.log.seed l.slot l.locations ≡ has_locations l.self.log.seed l.slot (drop l.location-index l.locations)
