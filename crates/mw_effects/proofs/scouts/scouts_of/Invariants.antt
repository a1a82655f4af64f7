use Rattle.std.proofs.Common.{◌≡◌, ◌++◌, drop}
use Rattle.mw_protocol.specs.Checks.{checks_at}
use Rattle.mw_protocol.specs.Locations.{scouted_at}
use Rattle.mw_effects.proofs.scouts.scouts_of.Given as goal

abbrev pub invariant-loop-location : goal.invariant-loop-location
invariant-loop-location l =
    l.found ++ scouted_at l.log.seed l.member.slot (checks_at l.member.team l.member.slot (drop l.location-index l.locations))
    ≡ scouted_at l.log.seed l.member.slot (checks_at l.member.team l.member.slot l.locations)
