use Rattle.std.proofs.Common.{◌≡◌, ◌++◌, drop, map}
use Rattle.mw_room.specs.Hinting.{all_told}
use Rattle.mw_effects.specs.Parts.{standing_of}
use Rattle.mw_effects.specs.Views.{announced_view}
use Rattle.mw_room.proofs.scouting.scouts_told.Given as goal

abbrev pub invariant-loop-location : goal.invariant-loop-location
invariant-loop-location l =
    map announced_view l.prints ++ all_told l.standing.log.seed (standing_of l.standing) l.member.team l.member.slot l.again (drop l.location-index l.known)
    ≡ all_told l.standing.log.seed (standing_of l.standing) l.member.team l.member.slot l.again l.known
