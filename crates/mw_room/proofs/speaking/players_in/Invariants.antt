use Rattle.std.proofs.Common.{◌≡◌, ◌++◌, drop, map}
use Rattle.mw_answers.specs.Present.{played_by}
use Rattle.mw_room.specs.Known.{members_of}
use Rattle.mw_room.specs.Views.{session_view}
use Rattle.mw_room.proofs.speaking.players_in.Given as goal

abbrev pub invariant-loop-session : goal.invariant-loop-session
invariant-loop-session l = l.players ++ map played_by (members_of (map session_view (drop l.session-index l.sessions))) ≡ map played_by (members_of (map session_view l.sessions))
