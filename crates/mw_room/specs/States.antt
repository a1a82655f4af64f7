-- How a session stands.
use Rattle.std.specs.Prelude.{Option, Some, None, if◌then◌else◌}
use Rattle.mw_protocol.specs.Rooms.{Session, greatest, untaken}
use Rattle.mw_room.specs.declared.state.SessionState.{SessionState}
use Rattle.mw_room.specs.declared.state.SessionState.TheVariants.{Shut, Overrun, Ready}

abbrev pub state_of : Option Session → SessionState
state_of None = Shut
state_of (Some s) = if s.overrun then Overrun else Ready (greatest (untaken s))
