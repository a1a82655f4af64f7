use Rattle.std.proofs.Common.{◌≡◌, drop, map}
use Rattle.mw_room.specs.Known.{shown_at}
use Rattle.mw_room.specs.Views.{session_view}
use Rattle.mw_room.proofs.sessions.state_in.Given as goal

abbrev pub invariant-loop-session : goal.invariant-loop-session
invariant-loop-session l = shown_at l.number (map session_view l.sessions) ≡ shown_at l.number (map session_view (drop l.session-index l.sessions))
